use Rattle.std.proofs.Common.{◌≡◌, ◌++◌, string_bytes, flat_map}
use Rattle.std.specs.List.{range_with_len}
use Rattle.plan_header.specs.Modules as spec
use Rattle.plan_header.proofs.python.push_each_pose.Given as goal

abbrev pub invariant-poses : goal.invariant-poses
invariant-poses l =
    string_bytes l.text ≡ string_bytes l.initial.text ++ flat_map (spec.pose_item l.named) (range_with_len 0 l.pose)
