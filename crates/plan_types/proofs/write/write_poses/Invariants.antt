use Rattle.std.proofs.Common.{◌≡◌, ◌++◌, flat_map, take}
use Rattle.plan_types.specs.Bytes.{pose_bytes}
use Rattle.plan_types.proofs.write.write_poses.Given as goal

abbrev pub invariant-loop-pose : goal.invariant-loop-pose
invariant-loop-pose l = l.out.items ≡ l.fn.out.items ++ flat_map pose_bytes (take l.pose l.plan.poses)
