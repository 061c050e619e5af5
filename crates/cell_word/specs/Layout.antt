-- The word of a state: fields side by side, from the lowest bit up. Each zone has five bits, each place one, both in
-- their order; then the stamp has twenty, and the mark of a stopped cell one. The bits above are zero.
use Rattle.std.specs.Prelude.{ℕ, ◌+◌, ◌*◌, ◌^◌, List, [], ◌∷◌, ◌++◌, map, sum_by, Option, Some, None, if◌then◌else◌}
use Rattle.std.specs.List.{flat_map}
use Rattle.cell_rules.specs.Types.{Machine, Zone, Z1, Z2, Z3, Z4, Z5, Z6, Place, FeedEntry, FeedEnd, Arm1, PressIn}
use Rattle.cell_rules.specs.Types.{PressOut, Arm2, DepEntry, DepEnd, Posture, Closed, Moving, OpenIn, OpenOut}
use Rattle.cell_rules.specs.Types.{host_of, same_machine, all_zones, all_places}
use Rattle.cell_types.specs.declared.place.Place.TheVariants.{Table}
use Rattle.cell_types.specs.declared.place.Place.TheVariants.{Crane}
use Rattle.cell_rules.specs.Names.{ModelState, zone_at, is_full, one_if}
use Rattle.cell_rules.specs.declared.zones.ZoneState.{ZoneState}

-- a field: its lowest bit, how many bits it has, and the number that they hold
pub record Field : Type 0 where
  pub lowest : ℕ
  pub width : ℕ
  pub value : ℕ

abbrev pub field : ℕ → ℕ → ℕ → Field
field lowest width value = record { lowest = lowest; width = width; value = value }

-- the lowest of the five bits of each zone
abbrev pub zone_bit : Zone → ℕ
zone_bit Z1 = 0
zone_bit Z2 = 5
zone_bit Z3 = 10
zone_bit Z4 = 15
zone_bit Z5 = 20
zone_bit Z6 = 25

-- the bit of each place
abbrev pub place_bit : Place → ℕ
place_bit FeedEntry = 30
place_bit FeedEnd = 31
place_bit Table = 32
place_bit Arm1 = 33
place_bit PressIn = 34
place_bit PressOut = 35
place_bit Arm2 = 36
place_bit DepEntry = 37
place_bit DepEnd = 38
place_bit Crane = 39

-- the lowest of the twenty bits of the stamp
abbrev pub stamp_bit : ℕ
stamp_bit = 40

-- the bit that is set while the cell is stopped
abbrev pub mark_bit : ℕ
mark_bit = 60

-- a zone is free, its host's, or its guest's: 0, 1 or 2
abbrev pub owner_code : Zone → Option Machine → ℕ
owner_code z None = 0
owner_code z (Some m) = if same_machine m (host_of z) then 1 else 2

abbrev pub posture_code : Posture → ℕ
posture_code Closed = 0
posture_code Moving = 1
posture_code OpenIn = 2
posture_code OpenOut = 3

-- a zone: two bits for its owner, one for its flag, two for its posture
abbrev pub zone_fields : Zone → ZoneState → List Field
zone_fields z v =
    field (zone_bit z) 2 (owner_code z v.owner)
    ∷ field (zone_bit z + 2) 1 (one_if v.flag)
    ∷ field (zone_bit z + 3) 2 (posture_code v.posture)
    ∷ []

-- a place: one bit, set where it is full
abbrev pub place_field : ModelState → Place → Field
place_field s p = field (place_bit p) 1 (one_if (is_full s p))

abbrev pub fields_at : ModelState → Zone → List Field
fields_at s z = zone_fields z (zone_at s z)

-- the stamp, and the mark above it
abbrev pub last_fields : ModelState → List Field
last_fields s = field stamp_bit 20 s.stamp ∷ field mark_bit 1 (one_if s.stopped) ∷ []

-- the zones in order, the places in order, then the stamp and the mark
abbrev pub fields_of : ModelState → List Field
fields_of s = flat_map (fields_at s) all_zones ++ map (place_field s) all_places ++ last_fields s

-- what a field adds to its word
abbrev pub term_of : Field → ℕ
term_of f = f.value * 2 ^ f.lowest

abbrev pub word_of : List Field → ℕ
word_of fields = sum_by term_of fields

-- the word of a state
unfoldable pub packed : ModelState → ℕ
packed s = word_of (fields_of s)
