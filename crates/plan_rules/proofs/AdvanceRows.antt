-- Literal advances.
use Rattle.std.proofs.Common.{◌≡◌, ◌<◌, true, false, [], refl, arith}
use Rattle.plan_types.specs.Examples.{through_table}
use Rattle.plan_rules.specs.AdvanceExamples.{AdvancesAnswer, AdvancesLeave, AdvanceOrder, AdvanceCauses, PlatesCounted, AdvancesBroken, AdvancesAreMet, first_half, second_half, empty_start, half_way}
use Rattle.plan_rules.proofs.Literal.{legal_by}

answer : AdvancesAnswer
answer = record { comes = refl; goes = refl; goes_beside = refl; full_source = refl; empty_sink = refl; neither = refl; anothers = refl; anothers_sink = refl; past_the_end = refl; by_watch = refl; stopped = refl; worn = refl; empty_both = refl; full_both = refl; coming_to_both = refl; none = refl; none_of_press = refl }

leave : AdvancesLeave
leave = record { comes = refl; goes = refl; refused = refl; filled = refl; emptied = refl }

order : AdvanceOrder
order = record { party = (refl, refl); stopped = (refl, refl); stopped_empty = (refl, refl); full = (refl, refl); empty = (refl, refl) }

causes : AdvanceCauses
causes = record { none = refl; none_of_sink = refl; party = refl; stopped = refl; full = refl; empty = refl; worn = refl }

plates : PlatesCounted
plates = record {
  first_legal = legal_by through_table empty_start first_half refl;
  second_legal = legal_by through_table half_way second_half refl;
  first_come = refl;
  first_gone = refl;
  first_plates = refl;
  second_come = refl;
  second_gone = refl;
  second_plates = refl;
  refused = refl;
  starts_with_one = refl;
}

broken : AdvancesBroken
broken = record {
  counted = λ law. let e : 2 ≡ 1 = law in absurd (omega arith);
  own = λ law. let e : 0 ≡ 1 = (law.own [] [] 1 0 refl).1 in absurd (omega arith);
  there = λ law. let e : 3 < 3 = (law.own [] [] 0 3 refl).0 in absurd (omega arith);
  comes = λ law. let e : false ≡ true = (law.comes [] [] 1 2 refl refl).0 in cc;
  goes = λ law. let e : false ≡ true = law.goes [] [] 0 0 refl refl in cc;
  room = λ law. let e : 1 ≡ 0 = (law.comes [] [] 0 0 refl refl).1 in absurd (omega arith);
}

pub advances_are_met : AdvancesAreMet
advances_are_met = record { answer = answer; leave = leave; order = order; causes = causes; plates = plates; broken = broken }
