-- A state of the interlock: each zone's owner, flag (whether a plate is in it) and posture, as a map; the set of the
-- places that are full; the stamp; and whether the cell is stopped.
use Rattle.std.specs.Prelude.{ℕ, ◌+◌, Bool}
use mir.Val.{bool_byte}
use Rattle.cell_rules.specs.Types.{Zone, Z1, Z2, Z3, Z4, Z5, Z6, Place, FeedEntry, FeedEnd, Arm1, PressIn, PressOut}
use Rattle.cell_rules.specs.Types.{Arm2, DepEntry, DepEnd}
use Rattle.cell_types.specs.declared.place.Place.TheVariants.{Table}
use Rattle.cell_types.specs.declared.place.Place.TheVariants.{Crane}
use Rattle.cell_rules.specs.declared.zones.ZoneState.{ZoneState}
use Rattle.cell_rules.specs.ZoneMap.{ZoneMap, zone_in}
use Rattle.cell_rules.specs.PlaceSet.{PlaceSet, has}

pub record ModelState : Type 0 where
  pub zones : ZoneMap
  pub full : PlaceSet
  pub stamp : ℕ
  pub stopped : Bool

abbrev pub model_state : ZoneMap → PlaceSet → ℕ → Bool → ModelState
model_state zones full stamp stopped = record { zones = zones; full = full; stamp = stamp; stopped = stopped }

-- the last stamp
abbrev pub last_stamp : ℕ
last_stamp = 1048575

-- the most plates of a start
abbrev pub max_plates : ℕ
max_plates = 6

abbrev pub zone_at : ModelState → Zone → ZoneState
zone_at s z = zone_in s.zones z

abbrev pub is_full : ModelState → Place → Bool
is_full s p = has s.full p

abbrev pub one_if : Bool → ℕ
one_if b = bool_byte b

-- how many places the set has
abbrev pub size_of : PlaceSet → ℕ
size_of set =
    one_if (has set FeedEntry) + one_if (has set FeedEnd) + one_if (has set Table) + one_if (has set Arm1)
    + one_if (has set PressIn) + one_if (has set PressOut) + one_if (has set Arm2) + one_if (has set DepEntry)
    + one_if (has set DepEnd) + one_if (has set Crane)

-- how many zones have their flag set
abbrev pub flags_of : ZoneMap → ℕ
flags_of map =
    one_if (zone_in map Z1).flag + one_if (zone_in map Z2).flag + one_if (zone_in map Z3).flag
    + one_if (zone_in map Z4).flag + one_if (zone_in map Z5).flag + one_if (zone_in map Z6).flag

-- the plates: the full places and the set flags
abbrev pub plates_of : ModelState → ℕ
plates_of s = size_of s.full + flags_of s.zones
