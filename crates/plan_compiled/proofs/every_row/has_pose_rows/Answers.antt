use Rattle.std.proofs.Common.{below_more, refl}
use Rattle.plan_types.specs.declared.call.Call.TheVariants.{SetPose}
use Rattle.plan_compiled.specs.Complete.{HasRows}
use Rattle.plan_compiled.proofs.every_row.has_pose_rows.Goals as goal

pub loop-pose-preserved : goal.loop-pose-preserved
loop-pose-preserved c =
    below_more (λ p. HasRows c.args.plan.now c.args.rows.now c.args.starts.now c.args.machine (SetPose p)) c.loop-pose.pose c.loop-pose.invariant (c.if-not-has_rows.ensures refl)
