-- The bytes of tables, cut into the rows of each table.
use Rattle.std.specs.Prelude.{◌≡◌, flat_map, map}
use Rattle.plan_types.specs.Table.{PlanTable}
use Rattle.plan_types.specs.declared.read.Parts.{Parts}
use Rattle.plan_types.specs.Bytes.{zone_bytes, pose_bytes, place_byte}

pub record IsPartsOf (parts : Parts) (t : PlanTable) : Type 0 where
  pub machines : t.machines ≡ parts.machines
  pub zones : flat_map zone_bytes t.zones ≡ parts.zones.now
  pub poses : flat_map pose_bytes t.poses ≡ parts.poses.now
  pub places : map place_byte t.places ≡ parts.places.now
