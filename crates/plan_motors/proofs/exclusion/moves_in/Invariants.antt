use Rattle.std.proofs.Common.{◌≡◌}
use Rattle.plan_types.specs.Below.{any_below}
use Rattle.plan_motors.specs.Exclusion.{moves_near}
use Rattle.plan_motors.proofs.exclusion.moves_in.Given as goal

abbrev pub invariant-loop-other : goal.invariant-loop-other
invariant-loop-other l = l.moves ≡ any_below (moves_near l.plan l.first l.second l.zone) l.other
