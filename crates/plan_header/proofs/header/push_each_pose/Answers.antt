use Rattle.plan_header.specs.Headers as spec
use Rattle.plan_header.proofs.lemmas.Lines.{one_more}
use Rattle.plan_header.proofs.header.push_each_pose.Goals as goal

pub poses-preserved : goal.poses-preserved
poses-preserved c = one_more (spec.pose_line c.args.named.now) _ _ _ c.poses.pose c.poses.invariant c.in_ok-push_pose.ensures
