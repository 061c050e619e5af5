use Rattle.std.proofs.Common.{take}
use Rattle.std.specs.List.{AllZip}
use Rattle.plan_document.specs.Motors.{IsMotorOf}
use Rattle.plan_document.proofs.motors.motors_of.Given as goal

abbrev pub invariant-loop-i : goal.invariant-loop-i
invariant-loop-i l = AllZip (IsMotorOf l.named) (take l.i l.rows) l.motors.items
