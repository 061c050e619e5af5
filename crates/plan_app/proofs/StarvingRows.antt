-- The examples of `starving_is_known`.
use Rattle.std.proofs.Common.{refl}
use Rattle.plan_app.specs.StarvingExamples.{StarvingIsKnown}

pub starving-known : StarvingIsKnown
starving-known = record {
  all_go_on = λ t. refl;
  silent = λ t. refl;
  unknown = λ t reason. refl;
  if_it = λ t order. refl;
  if_other = λ t order. refl;
  if_all = λ t order. refl;
  if_two = λ t order. refl;
  starves = λ t order. refl;
  beside_unknown = λ t reason order. refl;
  rest = λ t order. refl;
  no_places = λ t order. refl;
}
