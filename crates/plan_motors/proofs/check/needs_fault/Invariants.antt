use Rattle.std.proofs.Common.{◌≡◌}
use Rattle.plan_types.specs.Below.{first_below}
use Rattle.plan_motors.specs.Faults as faults
use Rattle.plan_motors.proofs.check.needs_fault.Given as goal

abbrev pub invariant-loop-zone : goal.invariant-loop-zone
invariant-loop-zone l = l.first ≡ first_below (faults.need_fault l.plan l.motor l.number) l.zone
