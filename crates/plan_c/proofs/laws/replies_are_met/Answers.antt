use Rattle.std.proofs.Common.{refl}
use Rattle.plan_c.proofs.laws.replies_are_met.Goals as goal

pub returns : goal.returns
returns c = λ word. record {
  done = refl;
  shown = λ m plate q. refl;
  shown_free = λ plate q. refl;
  held = λ m. refl;
  shut = λ q. refl;
  another = λ m. refl;
  nobody = refl;
  plate = λ z. refl;
  naming_nothing = refl;
  naming_posture = refl;
  bare = λ answer. refl;
  zone_of_five = refl;
  held_by_last = refl;
}
