use Rattle.std.proofs.Common.{◌≡◌}
use Rattle.plan_types.specs.Below.{first_below}
use Rattle.plan_drives.specs.Lacking.{undriven_motor}
use Rattle.plan_drives.proofs.check.first_motor.Given as goal

abbrev pub invariant-loop-motor : goal.invariant-loop-motor
invariant-loop-motor l = l.first ≡ first_below (undriven_motor l.plan l.known l.line l.motors) l.motor
