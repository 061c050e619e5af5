use Rattle.std.proofs.Common.{ℕ, ◌<◌}
use Rattle.plan_motors.specs.Poses.{LeadsByMoving}
use Rattle.plan_motors.proofs.poses.pose_by_moving.Given as goal

abbrev pub invariant-loop-pose : goal.invariant-loop-pose
invariant-loop-pose l = (p : ℕ) → p < l.pose → ¬ LeadsByMoving l.plan l.first l.second l.host l.any p
