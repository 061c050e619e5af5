-- The examples of `parts_are_told`.
use Rattle.std.proofs.Common.{refl}
use Rattle.std.specs.Fmt.{digits}
use Rattle.plan_app.specs.PartExamples.{PartsAreTold}

pub parts-told : PartsAreTold
unfolding digits
parts-told = record {
  firsts = (refl, refl, refl, refl);
  head = refl;
  other = refl;
  alone = refl;
  large = refl;
  two = refl;
  one = refl;
  none = refl;
  gives = refl;
  takes = refl;
  others = refl;
  advances = refl;
  nothing = refl;
  text = refl;
  no_plates = refl;
  starves = λ order. refl;
  not_ours = λ order. refl;
  rest = λ order. refl;
  rest_alone = λ order. refl;
}
