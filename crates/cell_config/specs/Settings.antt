-- What a configuration says, or its first fault.
use Rattle.std.specs.Prelude.{ℕ, ℤ, pos, negsuc, ◌-ℤ◌, ◌<ℤ◌, ◌≤ℤ◌, Bool, List, [], ◌∷◌, length, codes, nat_le, int_lt}
use Rattle.std.specs.Prelude.{◌≡◌, int_le, ◌&&◌, map, take, is_some, true, false, Option, Some, None, Result, Ok, Err}
use Rattle.std.specs.Prelude.{MatchOption, if◌then◌else◌}
use Rattle.std.specs.List.{filter_map, list_all}
use Rattle.std.specs.Option.{ok_or, option_and_then}
use Rattle.std.specs.Str.{is_utf8}
use Rattle.toml.specs.Data.{Data, Items, Members, array, integer, item, no_items, as_integer, as_str, as_table}
use Rattle.toml.specs.Data.{get_member}
use Rattle.toml.specs.Parse.{parse_document}
use Rattle.cell_rules.specs.Names.{ModelState, last_stamp, places_of, start_state, is_start, places_in}
use Rattle.cell_sensors.specs.Names.{Scale, Pair, ends_of, is_curve}
use Rattle.cell_parts.specs.Axes.{arm_end, rotation_end, turn_end, gripper_end}
use Rattle.cell_notes.specs.declared.schedule.Turn.{Turn}
use Rattle.cell_config.specs.Steps.{◌>>=◌, at_key, demand, of_kind, required}
use Rattle.cell_config.specs.Keys.{is_known}
use Rattle.cell_config.specs.Letters.{turns_of}
use Rattle.cell_config.specs.declared.fault.ConfigFault.{ConfigFault}
use Rattle.cell_config.specs.declared.fault.ConfigFault.TheVariants.{Long, Text, Unknown, Missing, Start, Range}

abbrev pub byte_limit : ℕ
byte_limit = 2097152

-- one byte more shows whether there are more than a configuration may have
abbrev pub max_bytes_read : ℕ
max_bytes_read = 2097153

-- what a configuration gives: a start, a schedule, and of arm1, arm2, rotation, turn and gripper the scales and the
-- curves' pairs
pub record Settings : Type 0 where
  pub start : ModelState
  pub schedule : List Turn
  pub points : List Scale
  pub curves : List (List Pair)

-- a whole number within limits
abbrev pub number_within : ℕ → ℕ → ℤ → Result ℕ ConfigFault
number_within least most (pos n) = if nat_le least n && nat_le n most then Ok n else Err Range
number_within least most (negsuc n) = Err Range

-- ten digits 0 or 1: for each place whether it is full
abbrev pub places_at : Members → Result (List Bool) ConfigFault
places_at ms =
    required (get_member (codes "start") ms) Missing
    (λ value. of_kind (as_str value) (λ text. ok_or (places_in text) Start))

abbrev pub stamp_at : Members → Result ℕ ConfigFault
stamp_at = at_key (codes "stamp") as_integer 0 (number_within 0 last_stamp)

-- the start with these places and this stamp
abbrev pub start_of : List Bool → ℕ → Result ModelState ConfigFault
start_of places stamp =
    if is_start (places_of places) stamp then Ok (start_state (places_of places) stamp) else Err Start

-- both keys, and then their start
abbrev pub start_at : Members → Result ModelState ConfigFault
start_at ms = places_at ms >>= (λ places. stamp_at ms >>= (λ stamp. start_of places stamp))

abbrev pub schedule_at : Members → Result (List Turn) ConfigFault
schedule_at = at_key (codes "schedule") as_str [] turns_of

-- exactly two whole numbers
abbrev pub pair_of : Data → Option (ℤ × ℤ)
pair_of (array (item (integer low) (item (integer high) no_items))) = Some (low, high)
pair_of _ = None

-- an axis begins at 0, and the default raw values are at least as far apart as its ends
abbrev pub IsAxisEnd : ℤ → Type 0
IsAxisEnd end = (pos 0 <ℤ end) × (end ≤ℤ pos 4000)

-- raw values at least as far apart as the ends of the axis
abbrev pub wide_enough : ℤ → ℕ → ℕ → Result (ℕ × ℕ) ConfigFault
wide_enough end low high = if int_lt (pos high -ℤ pos low) end then Err Range else Ok (low, high)

abbrev pub raw_within : ℤ → ℤ × ℤ → Result (ℕ × ℕ) ConfigFault
raw_within end (first, last) =
    number_within 0 65535 first >>= (λ low. number_within 0 65535 last >>= (λ high. wide_enough end low high))

abbrev pub raw_at : ℤ → Members → Result (ℕ × ℕ) ConfigFault
raw_at end = at_key (codes "raw") pair_of (0, 4000) (raw_within end)

abbrev pub tol_at : Members → Result ℕ ConfigFault
tol_at = at_key (codes "tol") as_integer 5 (number_within 1 10)

-- the scale of an axis from 0 to its end
abbrev pub axis_scale : ℤ → ℕ × ℕ → ℕ → Scale
axis_scale end raw tol = record { raw_lo = raw.0; raw_hi = raw.1; at_lo = pos 0; at_hi = end; tol = pos tol }

-- ---- the pairs of a curve

abbrev pub values_in : Items → List Data
values_in no_items = []
values_in (item value more) = value ∷ values_in more

abbrev pub is_pair : Data → Bool
is_pair value = is_some (pair_of value)

-- an array of pairs of whole numbers
abbrev pub pairs_in : Data → Option (List Data)
pairs_in (array items) = if list_all is_pair (values_in items) then Some (values_in items) else None
pairs_in _ = None

abbrev pub fits_i32 : ℤ → Bool
fits_i32 z = int_le (negsuc 2147483647) z && int_le z (pos 2147483647)

-- two whole numbers as a raw value and a position, if they fit
abbrev pub measured_in : ℤ × ℤ → Option Pair
measured_in (pos raw, position) = if nat_le raw 65535 && fits_i32 position then Some (raw, position) else None
measured_in (negsuc n, position) = None

abbrev pub measured_of : Data → Option Pair
measured_of value = option_and_then measured_in (pair_of value)

abbrev pub is_measured : Data → Bool
is_measured value = is_some (measured_of value)

-- the first pairs, as many as are counted, are those of the values; none, since one of these isn't measured
abbrev pub GivesMeasured : List Data → ℕ → Option (List Pair) → Type 0
GivesMeasured values count given = MatchOption given (list_all is_measured values ≡ false)
    (λ pairs. (list_all is_measured values ≡ true) × (take count pairs ≡ filter_map measured_of values))

abbrev pub curve_of : Scale → List Pair → Result (List Pair) ConfigFault
curve_of s pairs = if is_curve s pairs then Ok pairs else Err Range

-- pairs that fit and make a curve near the scale's line
abbrev pub curve_within : Scale → List Data → Result (List Pair) ConfigFault
curve_within s values = if list_all is_measured values then curve_of s (filter_map measured_of values) else Err Range

-- the pairs of a section's curve, which is that of the line if the key is absent
abbrev pub pairs_at : Scale → Members → Result (List Pair) ConfigFault
pairs_at s = at_key (codes "points") pairs_in (ends_of s) (curve_within s)

-- ---- the sections

-- a scale with the pairs of its curve
abbrev pub Section : Type 0
Section = Scale × List Pair

abbrev pub section_by : Scale → Members → Result Section ConfigFault
section_by s section = pairs_at s section >>= (λ pairs. Ok (s, pairs))

abbrev pub section_of : ℤ → Members → Result Section ConfigFault
section_of end section =
    raw_at end section >>= (λ raw. tol_at section >>= (λ tol. section_by (axis_scale end raw tol) section))

abbrev pub default_section : ℤ → Section
default_section end = (axis_scale end (0, 4000) 5, ends_of (axis_scale end (0, 4000) 5))

abbrev pub section_at : List ℕ → ℤ → Members → Result Section ConfigFault
section_at key end = at_key key as_table (default_section end) (section_of end)

-- the five sections, in the order of their keys
abbrev pub sections_at : Members → Result (List Section) ConfigFault
sections_at ms =
    section_at (codes "arm1") arm_end ms >>= (λ arm1.
    section_at (codes "arm2") arm_end ms >>= (λ arm2.
    section_at (codes "rotation") rotation_end ms >>= (λ rotation.
    section_at (codes "turn") turn_end ms >>= (λ turn.
    section_at (codes "gripper") gripper_end ms >>= (λ gripper.
    Ok (arm1 ∷ arm2 ∷ rotation ∷ turn ∷ gripper ∷ []))))))

-- The settings in a table, or its first fault.
abbrev pub settings_in : Members → Result Settings ConfigFault
settings_in ms =
    demand (is_known ms) Unknown >>= (λ _.
    start_at ms >>= (λ start.
    schedule_at ms >>= (λ schedule.
    sections_at ms >>= (λ sections.
    Ok (record {
      start = start;
      schedule = schedule;
      points = map (λ section. section.0) sections;
      curves = map (λ section. section.1) sections;
    })))))

-- The settings in some bytes, or their first fault.
unfoldable pub settings_of : List ℕ → Result Settings ConfigFault
settings_of bytes =
    demand (nat_le (length bytes) byte_limit) Long >>= (λ _.
    demand (is_utf8 bytes) Text >>= (λ _.
    ok_or (parse_document bytes) Text >>= settings_in))
