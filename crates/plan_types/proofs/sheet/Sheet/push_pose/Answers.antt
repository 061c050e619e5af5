use Rattle.plan_types.proofs.Keeping.{pose_kept}
use Rattle.plan_types.proofs.sheet.Sheet.push_pose.Goals as goal

pub invariant_of-self : goal.invariant_of-self
invariant_of-self c =
    (pose_kept c.self.inside c.self.invariant c.args.pose c.args.self.now c.self.view_is c.requires c.pose_row.result c.pose_row.ensures
    c.from.result c.from.ensures).0

pub returns : goal.returns
returns c =
    (pose_kept c.self.inside c.self.invariant c.args.pose c.args.self.now c.self.view_is c.requires c.pose_row.result c.pose_row.ensures
    c.from.result c.from.ensures).1
