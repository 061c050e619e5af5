use Rattle.std.proofs.Common.{take}
use Rattle.std.specs.List.{AllZip}
use Rattle.plan_picture.specs.Pictures.{IsVerdictOf}
use Rattle.plan_picture.proofs.verdicts.verdicts_of.Given as goal

abbrev pub invariant-loop-i : goal.invariant-loop-i
invariant-loop-i l =
    AllZip (IsVerdictOf l.plan.named.plan l.plan.motors.motors.items) (take l.i l.plan.motors.hazards.items) l.verdicts.items
