use Rattle.std.proofs.Common.{◌≡◌}
use Rattle.plan_types.specs.Below.{first_below}
use Rattle.plan_motors.specs.Exclusion.{owner_near}
use Rattle.plan_motors.proofs.exclusion.owner_in.Given as goal

abbrev pub invariant-loop-other : goal.invariant-loop-other
invariant-loop-other l = l.owner ≡ first_below (owner_near l.plan l.first l.second l.zone) l.other
