use Rattle.std.proofs.Common.{◌≡◌}
use Rattle.plan_types.specs.Below.{first_below}
use Rattle.plan_rules.specs.Refusals as refusals
use Rattle.plan_rules.proofs.state.State.any_unowned_by_pose.Given as goal

abbrev pub invariant-loop-zone : goal.invariant-loop-zone
invariant-loop-zone l = l.first ≡ first_below (refusals.unowned_by_pose l.plan l.self l.machine l.pose) l.zone
