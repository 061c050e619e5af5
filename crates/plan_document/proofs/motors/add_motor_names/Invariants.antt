use Rattle.std.proofs.Common.{◌≡◌, take}
use Rattle.plan_document.specs.Names.{AreDistinct, AreNames, motor_names}
use Rattle.plan_document.proofs.motors.add_motor_names.Given as goal

abbrev pub invariant-loop-i : goal.invariant-loop-i
invariant-loop-i l = record {
  names : l.names ≡ motor_names (take l.i l.motors);
  spelled : AreNames l.names;
  distinct : AreDistinct l.names;
}
