use Rattle.std.proofs.Common.{◌≡◌}
use Rattle.plan_types.specs.Below.{any_below}
use Rattle.plan_motors.specs.Mask.{never_near}
use Rattle.plan_motors.proofs.mask.lacks_posture.Given as goal

abbrev pub invariant-loop-other : goal.invariant-loop-other
invariant-loop-other l = l.never ≡ any_below (never_near l.plan l.motor l.zone) l.other
