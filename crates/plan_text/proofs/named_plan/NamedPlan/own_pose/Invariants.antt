use Rattle.std.proofs.Common.{◌≡◌}
use Rattle.plan_types.specs.Below.{first_below}
use Rattle.plan_text.specs.Calls.{pose_if}
use Rattle.plan_text.proofs.named_plan.NamedPlan.own_pose.Given as goal

abbrev pub invariant-loop-pose : goal.invariant-loop-pose
invariant-loop-pose l = l.found ≡ first_below (pose_if l.self l.machine l.name) l.pose
