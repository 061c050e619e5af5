use Rattle.std.proofs.Common.{◌≡◌, map, take}
use Rattle.plan_document.specs.OnWord.{names_of_poses}
use Rattle.plan_document.specs.Texts.{pose_texts}
use Rattle.plan_document.proofs.parts.names_of_poses.Given as goal

abbrev pub invariant-poses : goal.invariant-poses
invariant-poses l = l.names ≡ names_of_poses (map pose_texts (take l.pose l.poses))
