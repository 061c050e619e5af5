use Rattle.std.proofs.Common.{refl, inl, inr, arith}
use Rattle.plan_word.specs.declared.layout.Field.TheVariants.{Zone, Place, Stamp, Stop}
use Rattle.plan_word.proofs.Apart.{fields_are_apart}
use Rattle.plan_word.proofs.laws.fields_are_apart.Goals as goal

pub returns-clause-apart : goal.returns-clause-apart
returns-clause-apart c = fields_are_apart

pub returns-clause-fit : goal.returns-clause-fit
returns-clause-fit x = λ c t. record {
  width = λ law. law.width t;
  zones = λ law z p. elim (law.apart c (Zone 3) (Place 2) z p (λ e. cc)) [
    | inl l ↦ inl l
    | inr r ↦ inr (omega (arith, r))
  ];
  places = λ law p. elim (law.apart c (Place 2) Stamp p refl (λ e. cc)) [
    | inl l ↦ inl (omega (arith, l))
    | inr r ↦ inr (omega (arith, r))
  ];
  last_zone = λ law z. let e = law.within c (Zone 7) z in omega (arith, e);
  last_place = λ law p. let e = law.within c (Place 2) p in omega (arith, e);
  stop = λ law. let e = law.within c Stop refl in omega (arith, e);
}
