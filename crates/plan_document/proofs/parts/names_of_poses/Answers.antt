use Rattle.std.proofs.Common.{◌∙◌, ap, sym, string_bytes}
use Rattle.plan_document.specs.declared.document.PoseRow.{PoseRow}
use Rattle.plan_document.proofs.Parted.{pose_name_more, pose_names_all}
use Rattle.plan_document.proofs.parts.names_of_poses.Goals as goal

pub poses-preserved : goal.poses-preserved
poses-preserved c =
    pose_name_more c.args.poses.now c.poses.pose c.index-poses-pose.result c.poses.names c.push_name.new.names c.as_str.result.now c.poses-test.true c.index-poses-pose.is (c.as_str.ensures.value ∙ ap (λ (row : PoseRow). string_bytes row.name) (sym c.index-poses-pose.is)) c.in_ok-push_name.ensures.name c.poses.invariant

pub returns : goal.returns
returns c = pose_names_all c.args.poses.now c.poses.pose c.poses.names c.poses-test.false c.poses.invariant
