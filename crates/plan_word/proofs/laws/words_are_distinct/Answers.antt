use Rattle.std.proofs.Common.{refl, arith}
use Rattle.plan_word.specs.declared.layout.Field.TheVariants.{Zone, Stamp}
use Rattle.plan_word.proofs.lemmas.RoundTrip.{one_state}
use Rattle.plan_word.proofs.laws.words_are_distinct.Goals as goal

pub returns-clause-distinct : goal.returns-clause-distinct
returns-clause-distinct c = one_state

pub returns-clause-lift : goal.returns-clause-lift
returns-clause-lift c = λ s other. record {
  zone_fits = λ law of. (law _ s of).fits (Zone 1) refl;
  stamp_fits = λ law of. (law _ s of).fits Stamp refl;
  zone_reads_back = λ law of. (law _ s of).reads_back (Zone 1) refl;
  ends = λ law of. (law _ s of).bound;
  zone = λ law laid. (law _ s laid).zone 1 (omega arith);
  place = λ law laid. (law _ s laid).place 2 (omega arith);
  stamp = λ law laid. (law _ s laid).stamp;
  stop = λ law laid. (law _ s laid).stop;
  above = λ law laid. (law _ s laid).above;
  same = λ law one two e. law _ s other one two e;
}
