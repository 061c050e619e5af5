use Rattle.std.proofs.Common.{refl}
use Rattle.plan_controller.proofs.laws.faults_grow.Goals as goal

pub returns : goal.returns
returns _ = λ faults. record {
  as_they_are = refl;
  held = refl;
  shut = refl;
  not_owner = refl;
  plate_in_zone = refl;
  no_plate = refl;
  place_full = refl;
  wrong_way = refl;
  stopped = refl;
}
