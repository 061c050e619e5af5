-- The picture of a plan, as SVG.
use Rattle.std.specs.Prelude.{◌≡◌, ℕ, ◌+◌, ◌-◌, Bool, ◌||◌, nat_eq, List, [], ◌∷◌, ◌++◌, codes, flat_map, length, map}
use Rattle.std.specs.Prelude.{Option, Some, None, replicate, false, slice_get, IsTrue, if◌then◌else◌}
use Rattle.std.specs.Fmt.{decimal}
use Rattle.std.specs.List.{AllZip, range_with_len}
use Rattle.std.specs.Str.{bytes_eq}
use Rattle.plan_types.specs.declared.table.Way.{Way}
use Rattle.plan_types.specs.Table.{PlanTable, guest_of, host_of, is_sink, is_source, joins, zone_row}
use Rattle.plan_rules.specs.declared.state.State.{State}
use Rattle.plan_rules.specs.State.{start_state}
use Rattle.plan_motors.specs.declared.exclusion.Cause.TheVariants.{Zone, Place}
use Rattle.plan_motors.specs.declared.motor.Hazard.{Hazard}
use Rattle.plan_motors.specs.declared.motor.Motor.{Motor}
use Rattle.plan_motors.specs.declared.verdict.Verdict.{Verdict}
use Rattle.plan_motors.specs.declared.verdict.Verdict.TheVariants.{Excluded, ByPoses, Possible}
use Rattle.plan_motors.specs.OfPlan.{hazard_at, motor_at}
use Rattle.plan_motors.specs.Poses.{NeverFromPostures}
use Rattle.plan_motors.specs.Verdict.{IsShownBy, is_never}
use Rattle.plan_text.specs.Named.{Named}
use Rattle.plan_text.specs.Names.{Text, name_in}
use Rattle.plan_document.specs.declared.resolving.ProgrammedPlan.{ProgrammedPlan}
use Rattle.plan_header.specs.Words.{machine_name, zone_name}
use Rattle.plan_picture.specs.Elements.{box, circle, label, level, slanted, slope, upright}
use Rattle.plan_picture.specs.Scenes as at
use Rattle.plan_picture.specs.Scenes.{Scene, plant_scene, scene}
use Rattle.plan_picture.specs.declared.picture.TheConstants.{FIRST, FOURTH, SECOND, STYLE, THIRD, WORDS_STYLE}

-- ---- machines: a lane, and at its left a box with the name

abbrev pub lane_box : Scene → ℕ → Text
lane_box s k = box (codes "lane") 20 (at.lane s k) (at.width s) (at.lane_height s k)

abbrev pub machine_box : Scene → ℕ → Text
machine_box s k = box (codes "machine") 20 (at.lane s k) 260 (at.lane_height s k)

abbrev pub machine_title : Scene → ℕ → Text
machine_title s k = label (codes "name") 30 (at.lane s k + 26) 22 240 (machine_name s.named k)

abbrev pub machine_part : Scene → ℕ → Text
machine_part s k = lane_box s k ++ (machine_box s k ++ machine_title s k)

-- ---- places and motors: rows in the box of their machine

abbrev pub thing_at : Text → ℕ → Text → Text
thing_at class y name = circle class 38 y 5 ++ label class 52 (y + 4) 13 210 name

abbrev pub thing_part : Scene → Text → ℕ → Text → Text
thing_part s class thing name = thing_at class (at.row s thing) name

abbrev pub ring_part : Scene → ℕ → Text
ring_part s p = thing_part s (codes "place") (at.place_thing s p) (name_in s.named.places p)

-- an arrow across the left edge of the box: from outside to a source, from a sink to outside
abbrev pub source_arrow : Scene → ℕ → Text
source_arrow s p = level (codes "source") (at.source_line s (at.place_thing s p)) 2 32

abbrev pub source_part : Scene → ℕ → Text
source_part s p = if is_source s.named.plan p then source_arrow s p else []

abbrev pub sink_arrow : Scene → ℕ → Text
sink_arrow s p = level (codes "sink") (at.sink_line s (at.place_thing s p)) 32 2

abbrev pub sink_part : Scene → ℕ → Text
sink_part s p = if is_sink s.named.plan p then sink_arrow s p else []

abbrev pub place_part : Scene → ℕ → Text
place_part s p = ring_part s p ++ (source_part s p ++ sink_part s p)

abbrev pub motor_part : Scene → ℕ → Text
motor_part s m = thing_part s (codes "motor") (at.motor_thing s m) (name_in s.motor_names m)

-- ---- zones: the host, the guest, the ways of plates, and the names of the places at their ends

-- a machine by a mark of a zone
abbrev pub party_label : Scene → ℕ → ℕ → Text
party_label s zone machine =
    label (codes "party") (at.zone_column s zone + 52) (at.lane s machine + 22) 13 82 (machine_name s.named machine)

abbrev pub host_part : Scene → ℕ → ℕ → Text
host_part s zone host =
    box (codes "host") (at.zone_column s zone + 3) (at.lane s host + 11) 14 14 ++ party_label s zone host

abbrev pub guest_part : Scene → ℕ → ℕ → Text
guest_part s zone guest =
    circle (codes "guest") (at.zone_column s zone + 10) (at.lane s guest + 18) 7 ++ party_label s zone guest

abbrev pub zone_line : Scene → ℕ → ℕ → ℕ → Text
zone_line s zone host guest =
    upright (codes "zone") (at.zone_column s zone + 10) (at.lane s host + 18) (at.lane s guest + 18)

abbrev pub parties_by : Scene → ℕ → ℕ → ℕ → Text
parties_by s zone host guest =
    zone_line s zone host guest ++ (host_part s zone host ++ guest_part s zone guest)

abbrev pub parties_part : Scene → ℕ → Text
parties_part s zone = parties_by s zone (host_of s.named.plan zone) (guest_of s.named.plan zone)

-- an arrow from place to place
abbrev pub way_part : Scene → ℕ → Option Way → Text
way_part s x None = []
way_part s x (Some way) =
    upright (codes "way") x (at.row s (at.place_thing s way.from)) (at.row s (at.place_thing s way.to))

abbrev pub ways_part : Scene → ℕ → Text
ways_part s zone =
    way_part s (at.zone_column s zone + 28) (zone_row s.named.plan zone).inward
    ++ way_part s (at.zone_column s zone + 42) (zone_row s.named.plan zone).outward

abbrev pub is_end : Option Way → ℕ → Bool
is_end None place = false
is_end (Some way) place = nat_eq way.from place || nat_eq way.to place

abbrev pub is_on_way : Scene → ℕ → ℕ → Bool
is_on_way s zone place =
    is_end (zone_row s.named.plan zone).inward place || is_end (zone_row s.named.plan zone).outward place

abbrev pub end_label : Scene → ℕ → ℕ → Text
end_label s zone place =
    label (codes "end") (at.zone_column s zone + 52) (at.row s (at.place_thing s place) + 4) 13 82
    (name_in s.named.places place)

abbrev pub end_part : Scene → ℕ → ℕ → Text
end_part s zone place = if is_on_way s zone place then end_label s zone place else []

abbrev pub ends_part : Scene → ℕ → Text
ends_part s zone = flat_map (end_part s zone) (range_with_len 0 (length s.named.places))

abbrev pub zone_title : Scene → ℕ → Text
zone_title s zone = slanted (codes "zone") (at.zone_column s zone + 10) 220 15 280 (zone_name s.named zone)

-- the name of the zone's space, if that is another one; and a line to the host's mark from the one at the zone before,
-- if both are of one space
abbrev pub space_name_part : Scene → ℕ → Text → Text
space_name_part s zone space = slanted (codes "space") (at.zone_column s zone + 34) 220 13 280 space

abbrev pub space_title : Scene → ℕ → Text
space_title s zone =
    if bytes_eq (name_in s.named.spaces zone) (zone_name s.named zone) then []
    else space_name_part s zone (name_in s.named.spaces zone)

abbrev pub space_line : Scene → ℕ → Text
space_line s zone =
    if joins s.named.plan zone
    then level (codes "zone") (at.lane s (host_of s.named.plan zone) + 11) (at.zone_column s zone - 123)
    (at.zone_column s zone + 3)
    else []

abbrev pub space_part : Scene → ℕ → Text
space_part s zone = space_title s zone ++ space_line s zone

-- in the picture of a plant, the number of the zone's word
abbrev pub word_words : ℕ → Text
word_words word = codes "word " ++ (decimal word ++ codes "</text>\n")

abbrev pub word_number : Scene → ℕ → Text
word_number s zone = slope (codes "word") (at.zone_column s zone + 58) 220 13 ++ word_words s.word

abbrev pub word_title : Scene → ℕ → Text
word_title s zone = if s.says_word then word_number s zone else []

abbrev pub zone_part : Scene → ℕ → Text
zone_part s zone =
    (zone_title s zone ++ parties_part s zone)
    ++ ((ways_part s zone ++ ends_part s zone) ++ (space_part s zone ++ word_title s zone))

-- ---- hazards: two motors, and what keeps them apart

-- what is shown of the two motors of a hazard; if they are kept apart, they are never permitted both after a legal
-- history from a sound opening with the postures of a start
abbrev pub opening : State
opening = start_state (replicate 16 false) 0

pub record IsVerdictOf (t : PlanTable) (motors : List Motor) (h : Hazard) (v : Verdict) : Type 0 where
  pub shown : IsShownBy t (motor_at motors h.first) (motor_at motors h.second) opening v
  pub never : IsTrue (is_never v) → NeverFromPostures t opening (motor_at motors h.first) (motor_at motors h.second)

abbrev pub verdict_words : Named → Verdict → Text
verdict_words n (Excluded (Zone zone)) = codes "kept apart by " ++ name_in n.spaces zone
verdict_words n (Excluded (Place place)) = codes "kept apart by place " ++ name_in n.places place
verdict_words n (ByPoses machine) = codes "kept apart by the poses of " ++ machine_name n machine
verdict_words n (Possible s) = codes "NOT kept apart"

-- what is said of a hazard: whether its motors are kept apart, and by what
pub record Found : Type 0 where
  pub kept : Bool
  pub words : Text

abbrev pub found_by : Named → Verdict → Found
found_by n v = record { kept = is_never v; words = verdict_words n v }

abbrev pub found_class : Bool → Text
found_class kept = if kept then codes "kept" else codes "unkept"

abbrev pub found_part : Scene → ℕ → Found → Text
found_part s k found = slanted (found_class found.kept) (at.hazard_column s k + 34) 220 13 280 found.words

abbrev pub found_if : Scene → ℕ → Option Found → Text
found_if s k None = []
found_if s k (Some found) = found_part s k found

abbrev pub hazard_title : Scene → ℕ → Text
hazard_title s k = slanted (codes "hazard") (at.hazard_column s k + 10) 220 15 280 (name_in s.hazard_names k)

-- a motor by an end of a hazard's line
abbrev pub danger_label : Scene → ℕ → ℕ → Text
danger_label s k motor =
    label (codes "danger") (at.hazard_column s k + 22) (at.row s (at.motor_thing s motor) + 4) 13 112
    (name_in s.motor_names motor)

abbrev pub danger_line : Scene → ℕ → Hazard → Text
danger_line s k h =
    upright (codes "hazard") (at.hazard_column s k + 10) (at.row s (at.motor_thing s h.first))
    (at.row s (at.motor_thing s h.second))

abbrev pub danger_by : Scene → ℕ → Hazard → Text
danger_by s k h = danger_line s k h ++ (danger_label s k h.first ++ danger_label s k h.second)

abbrev pub danger_part : Scene → ℕ → Text
danger_part s k = danger_by s k (hazard_at s.hazards k)

abbrev pub hazard_part : Scene → List Found → ℕ → Text
hazard_part s found k =
    hazard_title s k ++ (found_if s k (slice_get found k) ++ danger_part s k)

-- ---- the picture

abbrev pub head : ℕ → ℕ → Text
head width height =
    codes "<svg xmlns=\"http://www.w3.org/2000/svg\" width=\"" ++ (decimal width ++ (codes "\" height=\""
    ++ (decimal height ++ (codes "\" viewBox=\"0 0 " ++ (decimal width ++ (codes " "
    ++ (decimal height ++ codes "\" font-family=\"monospace\">\n")))))))

abbrev pub begin_by : ℕ → ℕ → Text
begin_by width height = head width height ++ (STYLE.now ++ box (codes "paper") 0 0 width height)

-- in the picture of a plant, how its words look
abbrev pub words_style : Scene → Text
words_style s = if s.says_word then WORDS_STYLE.now else []

abbrev pub begin : Scene → Text
begin s = begin_by (at.width s) (at.height s) ++ words_style s

-- what the marks mean, below the lanes
abbrev pub legend_line : Scene → ℕ → Text → Text
legend_line s below text = label (codes "legend") 20 (at.lane s (length s.named.machines) + below) 12 500 text

abbrev pub legend : Scene → Text
legend s = legend_line s 14 FIRST.now ++ (legend_line s 30 SECOND.now ++ legend_line s 46 THIRD.now)

abbrev pub words_legend : Scene → Text
words_legend s = if s.says_word then legend_line s 62 FOURTH.now else []

abbrev pub finish : Scene → Text
finish s = legend s ++ (words_legend s ++ codes "</svg>\n")

abbrev pub machines_part : Scene → Text
machines_part s = flat_map (machine_part s) (range_with_len 0 (length s.named.machines))

abbrev pub places_part : Scene → Text
places_part s = flat_map (place_part s) (range_with_len 0 (length s.named.places))

abbrev pub motors_part : Scene → Text
motors_part s = flat_map (motor_part s) (range_with_len 0 (length s.motor_names))

abbrev pub zones_part : Scene → Text
zones_part s = flat_map (zone_part s) (range_with_len 0 (length s.named.zones))

-- a line before the columns of a word, in the picture of a plant
abbrev pub word_line : Scene → Text
word_line s =
    if s.says_word then upright (codes "word") (at.zone_column s 0 - 8) 226 (at.lane s (length s.named.machines) - 10)
    else []

abbrev pub word_part : Scene → Text
word_part s = word_line s ++ zones_part s

abbrev pub hazards_part : Scene → List Found → Text
hazards_part s found = flat_map (hazard_part s found) (range_with_len 0 (length s.hazard_names))

-- a part of each word, word by word
abbrev pub each_word : (Scene → Text) → Scene → Text
each_word part s = flat_map (λ word. part (at.on_word s word)) (range_with_len 0 (length s.words))

abbrev pub lanes_part : Scene → Text
lanes_part s = machines_part s ++ (each_word places_part s ++ motors_part s)

abbrev pub columns_part : Scene → List Found → Text
columns_part s found = each_word word_part s ++ hazards_part s found

unfoldable pub picture_text : Scene → List Found → Text
picture_text s found = begin s ++ (lanes_part s ++ (columns_part s found ++ finish s))

-- what is said of each hazard of a plan, by what is shown of it
pub record AreFound (plan : ProgrammedPlan) (found : List Found) : Type 0 where
  pub verdicts : List Verdict
  pub are : AllZip (IsVerdictOf plan.named.plan plan.motors.motors.items) plan.motors.hazards.items verdicts
  pub said : found ≡ map (found_by plan.named) verdicts

-- a picture of a plan, with what is said of each of its hazards
pub record IsPicture (plan : ProgrammedPlan) (text : Text) : Type 0 where
  pub found : List Found
  pub are : AreFound plan found
  pub told : text ≡ picture_text (scene plan) found

-- the picture of a plant, by the plans of its words, with what is said of each hazard; nothing of a plant without words
abbrev pub plant_picture_text : List ProgrammedPlan → List Found → Text
plant_picture_text [] found = []
plant_picture_text (first ∷ later) found = picture_text (plant_scene first (first ∷ later)) found
