use Rattle.std.proofs.Common.{◌≡◌, ◌++◌, flat_map, length, All}
use Rattle.plan_types.specs.Table.{whole_table}
use Rattle.plan_types.specs.Bytes.{pose_bytes, IsForTenZones}
use Rattle.plan_types.proofs.read.read_poses.Given as goal

abbrev pub invariant-loop-row : goal.invariant-loop-row
invariant-loop-row l =
    (l.bytes ≡ flat_map pose_bytes l.sheet.poses ++ l.rest)
    × (l.sheet ≡ whole_table l.fn.start.machines l.fn.start.zones l.sheet.poses l.fn.start.places)
    × All IsForTenZones l.sheet.poses

abbrev pub decreases-loop-row : goal.decreases-loop-row
decreases-loop-row l = length l.rest
