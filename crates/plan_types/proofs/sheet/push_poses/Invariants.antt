use Rattle.std.proofs.Common.{◌≡◌, take}
use Rattle.plan_types.specs.Table.{whole_table}
use Rattle.plan_types.proofs.sheet.push_poses.Given as goal

abbrev pub invariant-loop-pose : goal.invariant-loop-pose
invariant-loop-pose l =
    l.sheet ≡ whole_table l.fn.sheet.machines l.fn.sheet.zones (take l.pose-index l.poses) l.fn.sheet.places
