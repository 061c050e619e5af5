use Rattle.std.proofs.Common.{◌≡◌}
use Rattle.plan_types.specs.Below.{first_below}
use Rattle.plan_motors.specs.Exclusion as excluding
use Rattle.plan_motors.proofs.exclusion.first_place.Given as goal

abbrev pub invariant-loop-place : goal.invariant-loop-place
invariant-loop-place l = l.cause ≡ first_below (excluding.place_cause l.first l.second) l.place
