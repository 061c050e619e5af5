-- The state that the bits of a word encode, sound or not.
use Rattle.std.specs.Prelude.{ℕ, ◌+◌, ◌/◌, ◌%◌, ◌^◌, Bool, nat_eq, Option, Some, None, if◌then◌else◌}
use Rattle.cell_rules.specs.Types.{Machine, Zone, Z1, Z2, Z3, Z4, Z5, Z6, Place, FeedEntry, FeedEnd, Arm1, PressIn}
use Rattle.cell_rules.specs.Types.{PressOut, Arm2, DepEntry, DepEnd, Posture, Closed, Moving, OpenIn, OpenOut}
use Rattle.cell_rules.specs.Types.{host_of, guest_of}
use Rattle.cell_types.specs.declared.place.Place.TheVariants.{Table}
use Rattle.cell_types.specs.declared.place.Place.TheVariants.{Crane}
use Rattle.cell_rules.specs.Names.{ZoneMap, zone_map, PlaceSet, place_set, ModelState, model_state}
use Rattle.cell_rules.specs.declared.zones.ZoneState.{ZoneState}
use Rattle.cell_word.specs.Layout.{zone_bit, place_bit, stamp_bit, mark_bit}

-- the number in some bits of a word
abbrev pub bits_of : ℕ → ℕ → ℕ → ℕ
bits_of w lowest width = w / 2 ^ lowest % 2 ^ width

abbrev pub owner_of_code : Zone → ℕ → Option Machine
owner_of_code z n = if nat_eq n 0 then None else if nat_eq n 1 then Some (host_of z) else Some (guest_of z)

abbrev pub posture_of_code : ℕ → Posture
posture_of_code n = if nat_eq n 0 then Closed else if nat_eq n 1 then Moving else if nat_eq n 2 then OpenIn else OpenOut

abbrev pub is_bit_set : ℕ → ℕ → Bool
is_bit_set w lowest = nat_eq (bits_of w lowest 1) 1

abbrev pub zone_in_word : ℕ → Zone → ZoneState
zone_in_word w z = record {
  owner = owner_of_code z (bits_of w (zone_bit z) 2);
  flag = is_bit_set w (zone_bit z + 2);
  posture = posture_of_code (bits_of w (zone_bit z + 3) 2);
}

abbrev pub zones_in_word : ℕ → ZoneMap
zones_in_word w =
    zone_map
    (zone_in_word w Z1)
    (zone_in_word w Z2)
    (zone_in_word w Z3)
    (zone_in_word w Z4)
    (zone_in_word w Z5)
    (zone_in_word w Z6)

abbrev pub is_told_full : ℕ → Place → Bool
is_told_full w p = is_bit_set w (place_bit p)

abbrev pub places_in_word : ℕ → PlaceSet
places_in_word w =
    place_set (is_told_full w FeedEntry) (is_told_full w FeedEnd) (is_told_full w Table) (is_told_full w Arm1)
    (is_told_full w PressIn) (is_told_full w PressOut) (is_told_full w Arm2) (is_told_full w DepEntry)
    (is_told_full w DepEnd) (is_told_full w Crane)

abbrev pub state_told : ℕ → ModelState
state_told w = model_state (zones_in_word w) (places_in_word w) (bits_of w stamp_bit 20) (is_bit_set w mark_bit)
