use Rattle.std.proofs.Common.{◌≡◌}
use Rattle.plan_types.specs.Below.{first_below}
use Rattle.plan_motors.specs.Faults as faults
use Rattle.plan_motors.proofs.check.places_fault.Given as goal

abbrev pub invariant-loop-place : goal.invariant-loop-place
invariant-loop-place l = l.first ≡ first_below (faults.place_fault l.plan l.motor l.number) l.place
