use Rattle.std.proofs.Common.{refl, arith}
use Rattle.cell_parts.specs.MotorDemands.{ForTravel, AtDeposit, AtFeed}
use Rattle.plan_cell_motors.proofs.row_examples_are_right.Goals as goal

pub returns-clause-rows : goal.returns-clause-rows
returns-clause-rows c = record {
  motors = refl;
  hazards = refl;
  for_travel = refl;
  at_deposit = refl;
  at_feed = refl;
  gripper_at_feed = refl;
  belt_with_z1 = refl;
  belt_with_empty_end = refl;
  machines = refl;
  z1 = refl;
  z2 = refl;
  z3 = refl;
  z4 = refl;
  z5 = refl;
  z6 = refl;
  feed_ends = refl;
  other_places = refl;
  no_more_zones = refl;
  firsts = refl;
  seconds = refl;
  moving = refl;
  any_posture = refl;
  fifth_hazard = λ k. k 5 (omega arith);
  first_hazard = λ k. k 0 (omega arith);
  last_hazard = λ k. k 9 (omega arith);
}

pub returns-clause-demands : goal.returns-clause-demands
returns-clause-demands c = λ k s p. let d = k ForTravel s p in record {
  press = d.press;
  table = d.table;
  feed = d.feed;
  deposit = d.deposit;
  arm1 = d.arm1;
  arm2 = d.arm2;
  arm1_out = d.arm1_out;
  arm2_out = d.arm2_out;
  gripper_down = d.gripper_down;
  for_travel = d.gripper;
  at_deposit = (k AtDeposit s p).gripper;
  at_feed = (k AtFeed s p).gripper;
}
