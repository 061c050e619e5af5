use Rattle.std.proofs.Common.{ℕ, ◌<◌}
use Rattle.plan_motors.specs.Poses.{LeadsFurther}
use Rattle.plan_motors.proofs.poses.next_pose.Given as goal

abbrev pub invariant-loop-pose : goal.invariant-loop-pose
invariant-loop-pose l = (p : ℕ) → p < l.pose → ¬ LeadsFurther l.plan l.first l.second l.host l.any l.moving p
