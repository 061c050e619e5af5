-- The layout of a plan's word: the zones, the places, the stamp and the stop, from the lowest bit up.
use Rattle.std.specs.Prelude.{◌≡◌, ◌≢◌, ℕ, ◌+◌, ◌≤◌, Bool, true, false, nat_lt, List, [], ◌∷◌, get_or, map, replicate}
use Rattle.std.specs.Prelude.{◌⊎◌, IsTrue}
use Rattle.std.specs.List.{range_with_len}
use Rattle.plan_types.specs.declared.shape.ZoneShape.{ZoneShape}
use Rattle.plan_types.specs.Below.{sum_below}
use Rattle.plan_types.specs.Table.{PlanTable, zone_count, place_count, zone_shape, no_shape, shape_bits, word_width}
use Rattle.plan_types.specs.Examples.{press_table, lift_table, roads_table, rack_table, gated_table}
use Rattle.plan_word.specs.declared.layout.Field.{Field}
use Rattle.plan_word.specs.declared.layout.Field.TheVariants.{Zone, Place, Stamp, Stop}

-- how many zones and places a plan has, and which fields each zone has
pub record Counts : Type 0 where
  pub zones : ℕ
  pub places : ℕ
  pub shapes : List ZoneShape

abbrev pub counts_of : PlanTable → Counts
counts_of t = record {
  zones = zone_count t;
  places = place_count t;
  shapes = map (zone_shape t) (range_with_len 0 (zone_count t));
}

abbrev pub shape_at : Counts → ℕ → ZoneShape
shape_at c z = get_or c.shapes z no_shape

-- a zone has the bits of its shape, a place one, the stamp twenty, the stop one
abbrev pub bits_of : Counts → Field → ℕ
bits_of c (Zone z) = shape_bits (shape_at c z)
bits_of c (Place p) = 1
bits_of c Stamp = 20
bits_of c Stop = 1

abbrev pub has : Counts → Field → Bool
has c (Zone z) = nat_lt z c.zones
has c (Place p) = nat_lt p c.places
has c Stamp = true
has c Stop = true

-- where the first zones end
abbrev pub zones_end : Counts → ℕ → ℕ
zones_end c n = sum_below (λ z. shape_bits (shape_at c z)) n

-- the lowest bit of a field
abbrev pub start_of : Counts → Field → ℕ
start_of c (Zone z) = zones_end c z
start_of c (Place p) = zones_end c c.zones + p
start_of c Stamp = zones_end c c.zones + c.places
start_of c Stop = zones_end c c.zones + c.places + 20

abbrev pub end_of : Counts → Field → ℕ
end_of c f = start_of c f + bits_of c f

abbrev pub width_of : Counts → ℕ
width_of c = zones_end c c.zones + c.places + 21

pub record FieldsAreApart : Type 0 where
  -- the width that a plan's test looks at
  pub width : (t : PlanTable) → width_of (counts_of t) ≡ word_width t
  pub apart : (c : Counts) (f g : Field) → IsTrue (has c f) → IsTrue (has c g) → f ≢ g
      → (end_of c f ≤ start_of c g) ⊎ (end_of c g ≤ start_of c f)
  pub within : (c : Counts) (f : Field) → IsTrue (has c f) → end_of c f ≤ width_of c

-- zones of five bits, and of four
abbrev pub wide_shape : ZoneShape
wide_shape = record { guests = 1; flag = true; moves = true; opens_in = true; opens_out = true }

abbrev pub gate_shape : ZoneShape
gate_shape = record { guests = 1; flag = true; moves = false; opens_in = true; opens_out = false }

-- a number of zones of five bits, and of places
abbrev pub wide_counts : ℕ → ℕ → Counts
wide_counts zones places =
    record { zones = zones; places = places; shapes = replicate zones wide_shape }

-- the most zones of five bits that a plan with three places can have
abbrev pub most_zones : Counts
most_zones = wide_counts 8 3

-- ten zones of four bits
abbrev pub ten_gates : Counts
ten_gates = record { zones = 10; places = 3; shapes = replicate 10 gate_shape }

-- no zones and no places
abbrev pub no_rows : Counts
no_rows = record { zones = 0; places = 0; shapes = [] }

-- whether its word has a field, where the field begins, and where it ends
abbrev pub span_in : Counts → Field → Bool × ℕ × ℕ
span_in c f = (has c f, start_of c f, end_of c f)

abbrev pub span : Field → Bool × ℕ × ℕ
span f = span_in most_zones f

-- words whose fields were laid out by hand
pub record ExamplesFit : Type 0 where
  pub press : width_of (counts_of press_table) ≡ 28
  pub press_places : start_of (counts_of press_table) (Place 1) ≡ 6
  pub press_stamp : start_of (counts_of press_table) Stamp ≡ 7
  pub press_stop : start_of (counts_of press_table) Stop ≡ 27
  pub lift : width_of (counts_of lift_table) ≡ 34
  pub lift_zone : start_of (counts_of lift_table) (Zone 1) ≡ 5
  pub widest : width_of most_zones ≡ 64
  -- the first and the last field of each kind, where it begins and where it ends; and the first that the word lacks
  pub zones : span (Zone 0) ≡ (true, 0, 5)
  pub last_zone : span (Zone 7) ≡ (true, 35, 40)
  pub no_ninth_zone : has most_zones (Zone 8) ≡ false
  pub places : span (Place 0) ≡ (true, 40, 41)
  pub last_place : span (Place 2) ≡ (true, 42, 43)
  pub no_fourth_place : has most_zones (Place 3) ≡ false
  pub stamp : span Stamp ≡ (true, 43, 63)
  pub stop : span Stop ≡ (true, 63, 64)
  pub bits : map (bits_of most_zones) (Zone 3 ∷ Place 5 ∷ Stamp ∷ Stop ∷ []) ≡ 5 ∷ 1 ∷ 20 ∷ 1 ∷ []
  pub middle : map (start_of most_zones) (Zone 3 ∷ Place 1 ∷ []) ≡ 15 ∷ 41 ∷ []
  pub empty : map (has no_rows) (Zone 0 ∷ Place 0 ∷ Stamp ∷ Stop ∷ []) ≡ false ∷ false ∷ true ∷ true ∷ []
  pub empty_starts : map (start_of no_rows) (Stamp ∷ Stop ∷ []) ≡ 0 ∷ 20 ∷ []
  pub empty_width : width_of no_rows ≡ 21
  -- ten zones of four bits, and the same of a plan
  pub gates : map (span_in ten_gates) (Zone 0 ∷ Zone 9 ∷ Place 2 ∷ Stop ∷ [])
      ≡ (true, 0, 4) ∷ (true, 36, 40) ∷ (true, 42, 43) ∷ (true, 63, 64) ∷ []
  pub plan_of_gates : map (span_in (counts_of (gated_table 10 3))) (Zone 0 ∷ Zone 9 ∷ Zone 10 ∷ Place 2 ∷ Stop ∷ [])
      ≡ (true, 0, 4) ∷ (true, 36, 40) ∷ (false, 40, 42) ∷ (true, 42, 43) ∷ (true, 63, 64) ∷ []
  -- two roads, without plates; a rack of three bits before two presses
  pub roads : map (span_in (counts_of roads_table)) (Zone 0 ∷ Zone 1 ∷ Stamp ∷ Stop ∷ [])
      ≡ (true, 0, 4) ∷ (true, 4, 8) ∷ (true, 8, 28) ∷ (true, 28, 29) ∷ []
  pub rack : map (span_in (counts_of rack_table)) (Zone 0 ∷ Zone 1 ∷ Zone 2 ∷ Place 0 ∷ Place 3 ∷ Stamp ∷ Stop ∷ [])
      ≡ (true, 0, 3) ∷ (true, 3, 8) ∷ (true, 8, 13) ∷ (true, 13, 14) ∷ (true, 16, 17) ∷ (true, 17, 37)
      ∷ (true, 37, 38) ∷ []
  pub lift_counts : (counts_of lift_table).zones ∷ (counts_of lift_table).places ∷ [] ≡ 2 ∷ 3 ∷ []

-- what the law says of some fields, of any word
pub record FieldsFit (c : Counts) (t : PlanTable) : Type 0 where
  pub width : FieldsAreApart → zones_end (counts_of t) (zone_count t) + place_count t + 21 ≡ word_width t
  pub zones : FieldsAreApart → IsTrue (nat_lt 3 c.zones) → IsTrue (nat_lt 2 c.places)
      → (zones_end c 4 ≤ zones_end c c.zones + 2) ⊎ (zones_end c c.zones + 3 ≤ zones_end c 3)
  pub places : FieldsAreApart → IsTrue (nat_lt 2 c.places)
      → (zones_end c c.zones + 3 ≤ zones_end c c.zones + c.places)
      ⊎ (zones_end c c.zones + c.places + 20 ≤ zones_end c c.zones + 2)
  pub last_zone : FieldsAreApart → IsTrue (nat_lt 7 c.zones) → zones_end c 8 ≤ width_of c
  pub last_place : FieldsAreApart → IsTrue (nat_lt 2 c.places) → zones_end c c.zones + 3 ≤ width_of c
  pub stop : FieldsAreApart → zones_end c c.zones + c.places + 21 ≤ width_of c
