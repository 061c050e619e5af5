-- What pictures show, for all plans and all plants: each thing of each word has its element, with its own name, in its
-- lane or column; lanes, rows and columns are apart; and no name ends an element.
use Rattle.std.specs.Prelude.{◌≡◌, ◌<◌, ◌≤◌, ℕ, suc, ◌+◌, ◌-◌, ◌*◌, Bool, true, false, ◌&&◌, ◌||◌, not, nat_eq, IsTrue}
use Rattle.std.specs.Prelude.{if◌then◌else◌, List, [], ◌∷◌, ◌++◌, codes, length, map, Some, slice_get}
use Rattle.std.specs.Fmt.{decimal}
use Rattle.std.specs.List.{list_all}
use Rattle.std.specs.Str.{bytes_eq}
use Rattle.plan_types.specs.declared.table.Way.{Way}
use Rattle.plan_types.specs.Below.{sum_below}
use Rattle.plan_types.specs.Table.{guest_of, host_of, is_sink, is_source, joins, keeper_of, place_count, zone_row}
use Rattle.plan_rules.specs.State.{one_if}
use Rattle.plan_motors.specs.declared.verdict.Verdict.{Verdict}
use Rattle.plan_motors.specs.OfPlan.{hazard_at, motor_at}
use Rattle.plan_motors.specs.Verdict.{is_never}
use Rattle.plan_text.specs.Names.{Text, name_in}
use Rattle.plan_picture.specs.Elements.{box, circle, escaped, fitting, label, level, slanted, slope, upright}
use Rattle.plan_picture.specs.Pictures.{Found, found_by, found_class, picture_text, verdict_words}
use Rattle.plan_picture.specs.Scenes as at
use Rattle.plan_picture.specs.Scenes.{Scene}

-- a text has a part
pub record Has (text part : Text) : Type 0 where
  pub before : Text
  pub after : Text
  pub is : text ≡ before ++ (part ++ after)

-- whether a text begins with a part, and how often it has the part
abbrev pub begins_with : Text → Text → Bool
begins_with text [] = true
begins_with [] (b ∷ part) = false
begins_with (c ∷ text) (b ∷ part) = nat_eq c b && begins_with text part

abbrev pub times_in : Text → Text → ℕ
times_in [] part = 0
times_in (c ∷ text) part = if begins_with (c ∷ text) part then suc (times_in text part) else times_in text part

-- each machine, place and motor stands with its name in its lane: the places of each word in a row of their keeper's
pub record LanesAreDrawn : Type 0 where
  pub machine : (s : Scene) (fs : List Found) (k : ℕ) → k < length s.named.machines
      → Has (picture_text s fs) (label (codes "name") 30 (at.lane s k + 26) 22 240 (name_in s.named.machines k))
  pub place : (s : Scene) (fs : List Found) (w k : ℕ) → w < length s.words → k < length (at.word_at s w).places
      → Has (picture_text s fs)
      (label (codes "place") 52 (at.row s (at.place_thing (at.on_word s w) k) + 4) 13 210
      (name_in (at.word_at s w).places k))
  pub motor : (s : Scene) (fs : List Found) (k : ℕ) → k < length s.motor_names
      → Has (picture_text s fs)
      (label (codes "motor") 52 (at.row s (at.motor_thing s k) + 4) 13 210 (name_in s.motor_names k))
  pub keeper : (s : Scene) (w k : ℕ) → w < length s.words → k < place_count (at.word_at s w).plan
      → at.owner_of s (at.place_thing (at.on_word s w) k) ≡ keeper_of (at.word_at s w).plan k
  pub machine_with : (s : Scene) (k : ℕ) → k < length s.motor_names
      → at.owner_of s (at.motor_thing s k) ≡ (motor_at s.motors k).machine

-- each source has an arrow that comes from outside, each sink one that goes there; and there are no more arrows than
-- sources, and than sinks
pub record EndsAreDrawn : Type 0 where
  pub source : (s : Scene) (fs : List Found) (w k : ℕ) → w < length s.words → k < length (at.word_at s w).places
      → IsTrue (is_source (at.word_at s w).plan k)
      → Has (picture_text s fs) (level (codes "source") (at.row s (at.place_thing (at.on_word s w) k) - 4) 2 32)
  pub sink : (s : Scene) (fs : List Found) (w k : ℕ) → w < length s.words → k < length (at.word_at s w).places
      → IsTrue (is_sink (at.word_at s w).plan k)
      → Has (picture_text s fs) (level (codes "sink") (at.row s (at.place_thing (at.on_word s w) k) + 4) 32 2)
  pub sources : (s : Scene) (fs : List Found)
      → times_in (picture_text s fs) (codes "<line class=\"source\"")
      ≡ sum_below (λ w. sum_below (λ k. one_if (is_source (at.word_at s w).plan k)) (length (at.word_at s w).places))
      (length s.words)
  pub sinks : (s : Scene) (fs : List Found)
      → times_in (picture_text s fs) (codes "<line class=\"sink\"")
      ≡ sum_below (λ w. sum_below (λ k. one_if (is_sink (at.word_at s w).plan k)) (length (at.word_at s w).places))
      (length s.words)

-- of each word each zone has its name, a square in the lane of its host, a circle in the lane of its guest, and an
-- arrow for each way of plates from the one place to the other
pub record ZoneIsDrawn (s : Scene) (text : Text) (z : ℕ) : Type 0 where
  pub name : Has text (slanted (codes "zone") (at.zone_column s z + 10) 220 15 280 (name_in s.named.zones z))
  pub host : Has text (box (codes "host") (at.zone_column s z + 3) (at.lane s (host_of s.named.plan z) + 11) 14 14)
  pub guest :
      Has text (circle (codes "guest") (at.zone_column s z + 10) (at.lane s (guest_of s.named.plan z) + 18) 7)
  pub inward : (way : Way) → (zone_row s.named.plan z).inward ≡ Some way
      → Has text
      (upright (codes "way") (at.zone_column s z + 28) (at.row s (at.place_thing s way.from))
      (at.row s (at.place_thing s way.to)))
  pub outward : (way : Way) → (zone_row s.named.plan z).outward ≡ Some way
      → Has text
      (upright (codes "way") (at.zone_column s z + 42) (at.row s (at.place_thing s way.from))
      (at.row s (at.place_thing s way.to)))
  -- one whose space has another name has this, too; and one that is of a space with the zone before it is tied to that
  pub space : bytes_eq (name_in s.named.spaces z) (name_in s.named.zones z) ≡ false
      → Has text (slanted (codes "space") (at.zone_column s z + 34) 220 13 280 (name_in s.named.spaces z))
  pub tied : joins s.named.plan z ≡ true
      → Has text
      (level (codes "zone") (at.lane s (host_of s.named.plan z) + 11) (at.zone_column s z - 123)
      (at.zone_column s z + 3))
  -- in the picture of a plant it says its word
  pub word : s.says_word ≡ true
      → Has text
      (slope (codes "word") (at.zone_column s z + 58) 220 13
      ++ (codes "word " ++ (decimal s.word ++ codes "</text>\n")))

pub record ZonesAreDrawn : Type 0 where
  pub each : (s : Scene) (fs : List Found) (w z : ℕ) → w < length s.words → z < length (at.word_at s w).zones
      → ZoneIsDrawn (at.on_word s w) (picture_text s fs) z
  -- in the picture of a plant a line stands before the columns of each word
  pub line : (s : Scene) (fs : List Found) (w : ℕ) → w < length s.words → s.says_word ≡ true
      → Has (picture_text s fs)
      (upright (codes "word") (at.zone_column (at.on_word s w) 0 - 8) 226
      (at.lane s (length (at.word_at s w).machines) - 10))

-- each hazard has its name, what is said of it, and a line from the one motor to the other, with their names
pub record HazardsAreDrawn : Type 0 where
  pub name : (s : Scene) (fs : List Found) (k : ℕ) → k < length s.hazard_names
      → Has (picture_text s fs)
      (slanted (codes "hazard") (at.hazard_column s k + 10) 220 15 280 (name_in s.hazard_names k))
  pub found : (s : Scene) (fs : List Found) (k : ℕ) (found : Found) → k < length s.hazard_names
      → slice_get fs k ≡ Some found
      → Has (picture_text s fs)
      (slanted (found_class found.kept) (at.hazard_column s k + 34) 220 13 280 found.words)
  -- of a plan: what keeps its motors apart
  pub verdict : (s : Scene) (vs : List Verdict) (k : ℕ) (v : Verdict) → k < length s.hazard_names
      → slice_get vs k ≡ Some v
      → Has (picture_text s (map (found_by s.named) vs))
      (slanted (found_class (is_never v)) (at.hazard_column s k + 34) 220 13 280 (verdict_words s.named v))
  pub line : (s : Scene) (fs : List Found) (k : ℕ) → k < length s.hazard_names
      → Has (picture_text s fs)
      (upright (codes "hazard") (at.hazard_column s k + 10)
      (at.row s (at.motor_thing s (hazard_at s.hazards k).first))
      (at.row s (at.motor_thing s (hazard_at s.hazards k).second)))
  pub first : (s : Scene) (fs : List Found) (k : ℕ) → k < length s.hazard_names
      → Has (picture_text s fs)
      (label (codes "danger") (at.hazard_column s k + 22)
      (at.row s (at.motor_thing s (hazard_at s.hazards k).first) + 4) 13 112
      (name_in s.motor_names (hazard_at s.hazards k).first))
  pub second : (s : Scene) (fs : List Found) (k : ℕ) → k < length s.hazard_names
      → Has (picture_text s fs)
      (label (codes "danger") (at.hazard_column s k + 22)
      (at.row s (at.motor_thing s (hazard_at s.hazards k).second) + 4) 13 112
      (name_in s.motor_names (hazard_at s.hazards k).second))

pub record AllIsDrawn : Type 0 where
  pub lanes : LanesAreDrawn
  pub ends : EndsAreDrawn
  pub zones : ZonesAreDrawn
  pub hazards : HazardsAreDrawn

-- lanes are 14 apart; a lane's rows are 20 apart, below its name and above its end; a place's two arrows are 8 apart,
-- and 12 from those of other rows; columns are 140 apart, those of a word after those of the words before it, and those
-- of hazards after those of zones; no two places of a plant are one thing, nor a place and a motor; and all of it is in
-- the picture
pub record AllIsApart : Type 0 where
  pub lanes : (s : Scene) (k : ℕ) → at.lane s (k + 1) ≡ at.lane s k + at.lane_height s k + 14
  pub below_name : (s : Scene) (i : ℕ) → at.lane s (at.owner_of s i) + 44 ≤ at.row s i
  pub above_end : (s : Scene) (i : ℕ) → i < at.thing_count s
      → at.row s i + 18 ≤ at.lane s (at.owner_of s i) + at.lane_height s (at.owner_of s i)
  pub rows : (s : Scene) (i j : ℕ) → i < j → at.owner_of s i ≡ at.owner_of s j → at.row s i + 20 ≤ at.row s j
  pub things_of_words : (s : Scene) (w p : ℕ) → p < place_count (at.word_at s w).plan
      → at.place_thing (at.on_word s w) p < at.place_thing (at.on_word s (w + 1)) 0
  pub motors_after_places : (s : Scene) (w p k : ℕ) → w < length s.words → p < place_count (at.word_at s w).plan
      → at.place_thing (at.on_word s w) p < at.motor_thing s k
  pub arrows : (s : Scene) (i : ℕ) → at.sink_line s i ≡ at.source_line s i + 8
  pub arrows_of_rows : (s : Scene) (i j : ℕ) → i < j → at.owner_of s i ≡ at.owner_of s j
      → at.sink_line s i + 12 ≤ at.source_line s j
  pub arrows_below_name : (s : Scene) (i : ℕ) → at.lane s (at.owner_of s i) + 40 ≤ at.source_line s i
  pub arrows_above_end : (s : Scene) (i : ℕ) → i < at.thing_count s
      → at.sink_line s i + 14 ≤ at.lane s (at.owner_of s i) + at.lane_height s (at.owner_of s i)
  pub columns : (k : ℕ) → at.column (k + 1) ≡ at.column k + 140
  pub zones : (s : Scene) (z : ℕ) → at.zone_column s (z + 1) ≡ at.zone_column s z + 140
  pub words : (s : Scene) (w z : ℕ) → z < length (at.word_at s w).zones
      → at.zone_column (at.on_word s w) z + 140 ≤ at.zone_column (at.on_word s (w + 1)) 0
  pub hazards_after_zones : (s : Scene) (w z k : ℕ) → w < length s.words → z < length (at.word_at s w).zones
      → at.zone_column (at.on_word s w) z + 140 ≤ at.hazard_column s k
  pub next_hazard : (s : Scene) (k : ℕ) → at.hazard_column s (k + 1) ≡ at.hazard_column s k + 140
  pub in_width : (s : Scene) (k : ℕ) → k < length s.hazard_names → at.hazard_column s k + 140 ≤ at.width s
  pub in_height : (s : Scene) → at.lane s (length s.named.machines) ≤ at.height s

-- a byte that could end an element or a value of an attribute
abbrev pub is_sharp : ℕ → Bool
is_sharp byte = nat_eq byte 60 || (nat_eq byte 62 || (nat_eq byte 34 || nat_eq byte 39))

-- a text fits its width, at six tenths of its size for a letter, and none ends an element
pub record TextsFit : Type 0 where
  pub width : (most width count : ℕ) → 6 * (fitting most width count * count) ≤ 10 * width
  pub most : (most width count : ℕ) → fitting most width count ≤ most
  pub no_end : (text : Text) → list_all (λ byte. not (is_sharp byte)) (escaped text) ≡ true
