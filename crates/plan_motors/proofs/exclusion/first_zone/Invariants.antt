use Rattle.std.proofs.Common.{◌≡◌}
use Rattle.plan_types.specs.Below.{first_below}
use Rattle.plan_motors.specs.Exclusion as excluding
use Rattle.plan_motors.proofs.exclusion.first_zone.Given as goal

abbrev pub invariant-loop-zone : goal.invariant-loop-zone
invariant-loop-zone l = l.cause ≡ first_below (excluding.zone_cause l.plan l.first l.second) l.zone
