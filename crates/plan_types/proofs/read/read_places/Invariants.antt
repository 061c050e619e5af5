use Rattle.std.proofs.Common.{◌≡◌, map, take, All}
use Rattle.plan_types.specs.Table.{whole_table}
use Rattle.plan_types.specs.Bytes.{place_byte, IsNarrow}
use Rattle.plan_types.proofs.read.read_places.Given as goal

abbrev pub invariant-loop-byte : goal.invariant-loop-byte
invariant-loop-byte l =
    (l.sheet ≡ whole_table l.fn.start.machines l.fn.start.zones l.fn.start.poses l.sheet.places)
    × (map place_byte l.sheet.places ≡ take l.byte-index l.bytes)
    × All IsNarrow l.sheet.places
