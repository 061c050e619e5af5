use Rattle.std.proofs.Common.{◌≡◌, ◌++◌, flat_map, length}
use Rattle.plan_types.specs.Table.{whole_table}
use Rattle.plan_types.specs.Bytes.{zone_bytes}
use Rattle.plan_types.proofs.read.read_zones.Given as goal

abbrev pub invariant-loop-row : goal.invariant-loop-row
invariant-loop-row l =
    (l.bytes ≡ flat_map zone_bytes l.sheet.zones ++ l.rest)
    × (l.sheet ≡ whole_table l.fn.start.machines l.sheet.zones l.fn.start.poses l.fn.start.places)

abbrev pub decreases-loop-row : goal.decreases-loop-row
decreases-loop-row l = length l.rest
