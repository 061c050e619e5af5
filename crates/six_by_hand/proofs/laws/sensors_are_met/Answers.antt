use Rattle.std.proofs.Common.{refl}
use Rattle.six_by_hand.proofs.laws.sensors_are_met.Goals as goal

pub returns : goal.returns
returns c = record {
  feed = refl;
  deposit = refl;
  table_low = refl;
  table_high = refl;
  robot = refl;
  press_low = refl;
  press_high = refl;
  turned = refl;
  robot_far = refl;
  lowered = refl;
  crane = refl;
}
