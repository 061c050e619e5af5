use Rattle.plan_header.specs.Modules as spec
use Rattle.plan_header.proofs.lemmas.Lines.{one_more}
use Rattle.plan_header.proofs.python.push_each_pose.Goals as goal

pub poses-preserved : goal.poses-preserved
poses-preserved c = one_more (spec.pose_item c.args.named.now) _ _ _ c.poses.pose c.poses.invariant c.in_ok-push_pose.ensures
