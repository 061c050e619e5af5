use Rattle.plan_compiled.specs.Complete.{HasPoseRows}
use Rattle.plan_compiled.proofs.every_row.has_pose_rows.Given as goal

abbrev pub invariant-loop-pose : goal.invariant-loop-pose
invariant-loop-pose l = HasPoseRows l.plan l.rows l.starts l.machine l.pose
