use Rattle.std.proofs.Common.{◌≡◌}
use Rattle.plan_types.specs.Below.{any_below}
use Rattle.plan_motors.specs.Mask.{holds_near}
use Rattle.plan_motors.proofs.mask.holds_in.Given as goal

abbrev pub invariant-loop-other : goal.invariant-loop-other
invariant-loop-other l = l.holds ≡ any_below (holds_near l.plan l.motor l.zone) l.other
