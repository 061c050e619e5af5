use Rattle.std.proofs.Common.{refl}
use Rattle.plan_controller.proofs.laws.names_are_waited_for.Goals as goal

pub returns : goal.returns
returns _ = record {
  held = λ m. (refl, refl);
  shut = λ q. (refl, refl);
  not_owner = λ owner. (refl, refl);
  plate_in_zone = λ z. (refl, refl);
  by_machine = λ m. refl;
  by_posture = λ q. refl;
  by_owner = λ owner. refl;
  by_zone = λ z. refl;
}
