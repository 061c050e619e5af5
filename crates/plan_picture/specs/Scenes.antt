-- Where things stand in a picture: of a plan, which is one word, or of a plant on several. Each machine is a lane, each
-- zone of each word a column, in the order of the words, and after the zones each hazard.
-- A lane has a row for each place and each motor of its machine: the places of all words, word by word, then the
-- motors.
use Rattle.std.specs.Prelude.{ℕ, ◌+◌, ◌-◌, ◌*◌, Bool, true, false, nat_eq, nat_lt, List, [], ◌∷◌, ◌++◌, flat_map}
use Rattle.std.specs.Prelude.{get_or, length, map}
use Rattle.std.specs.List.{range_with_len}
use Rattle.plan_types.specs.Below.{sum_below}
use Rattle.plan_types.specs.Table.{PlanTable, keeper_of, place_count, plan_table}
use Rattle.plan_rules.specs.State.{one_if}
use Rattle.plan_motors.specs.declared.motor.Hazard.{Hazard}
use Rattle.plan_motors.specs.declared.motor.Motor.{Motor}
use Rattle.plan_motors.specs.OfPlan.{motor_at}
use Rattle.plan_text.specs.Named.{Named, named}
use Rattle.plan_text.specs.Names.{Text}
use Rattle.plan_document.specs.declared.motors.NamedMotors.{NamedMotors}
use Rattle.plan_document.specs.declared.resolving.ProgrammedPlan.{ProgrammedPlan}

-- what a picture shows: the plan of one word, motors and hazards, and the plans of all words, of which this one has a
-- number; and whether each column says this
pub record Scene : Type 0 where
  pub named : Named
  pub motors : List Motor
  pub motor_names : List Text
  pub hazards : List Hazard
  pub hazard_names : List Text
  pub words : List Named
  pub word : ℕ
  pub says_word : Bool

abbrev pub scene_by : Named → NamedMotors → List Named → ℕ → Bool → Scene
scene_by plan motors words word says_word = record {
  named = plan;
  motors = motors.motors.items;
  motor_names = motors.names;
  hazards = motors.hazards.items;
  hazard_names = motors.hazard_names;
  words = words;
  word = word;
  says_word = says_word;
}

-- a plan is its only word, and its columns don't say so
abbrev pub scene : ProgrammedPlan → Scene
scene plan = scene_by plan.named plan.motors (plan.named ∷ []) 0 false

-- a plant, by the plan of its first word and those of all: each has all machines, motors and hazards
abbrev pub names_of_words : List ProgrammedPlan → List Named
names_of_words plans = map (λ (plan : ProgrammedPlan). plan.named) plans

abbrev pub plant_scene : ProgrammedPlan → List ProgrammedPlan → Scene
plant_scene first plans = scene_by first.named first.motors (names_of_words plans) 0 true

-- ---- words

abbrev pub no_word : Named
no_word = named (plan_table 0 [] [] []) [] [] [] []

abbrev pub word_in : List Named → ℕ → Named
word_in words word = get_or words word no_word

abbrev pub word_at : Scene → ℕ → Named
word_at s word = word_in s.words word

-- the same plant, of which another word is shown
abbrev pub on_word : Scene → ℕ → Scene
on_word s word = record s { named = word_at s word; word = word }

-- how many places and zones the first words have
abbrev pub places_before : Scene → ℕ → ℕ
places_before s limit = sum_below (λ word. place_count (word_at s word).plan) limit

abbrev pub zones_before : Scene → ℕ → ℕ
zones_before s limit = sum_below (λ word. length (word_at s word).zones) limit

abbrev pub all_places : Scene → ℕ
all_places s = places_before s (length s.words)

abbrev pub all_zones : Scene → ℕ
all_zones s = zones_before s (length s.words)

-- ---- things: the places of all words by their numbers, then the motors by theirs

abbrev pub thing_count : Scene → ℕ
thing_count s = all_places s + length s.motor_names

abbrev pub place_thing : Scene → ℕ → ℕ
place_thing s place = places_before s s.word + place

abbrev pub motor_thing : Scene → ℕ → ℕ
motor_thing s motor = all_places s + motor

-- the machine of each thing: that which keeps a place, or that has a motor
abbrev pub keepers_in : PlanTable → List ℕ
keepers_in t = map (keeper_of t) (range_with_len 0 (place_count t))

abbrev pub keepers_on : List Named → ℕ → List ℕ
keepers_on words word = keepers_in (word_in words word).plan

abbrev pub machine_with : List Motor → ℕ → ℕ
machine_with motors motor = (motor_at motors motor).machine

abbrev pub thing_owners : Scene → List ℕ
thing_owners s =
    flat_map (keepers_on s.words) (range_with_len 0 (length s.words))
    ++ map (machine_with s.motors) (range_with_len 0 (length s.motor_names))

abbrev pub owner_of : Scene → ℕ → ℕ
owner_of s thing = get_or (thing_owners s) thing 0

-- how many of the first things are of a machine, and how many of all are of the machines before it
abbrev pub owned : Scene → ℕ → ℕ → ℕ
owned s machine limit = sum_below (λ thing. one_if (nat_eq (owner_of s thing) machine)) limit

abbrev pub owned_before : Scene → ℕ → ℕ
owned_before s machine = sum_below (λ thing. one_if (nat_lt (owner_of s thing) machine)) (thing_count s)

-- ---- heights: of the top of a machine's lane, of the middle of a thing's row; and how high a lane is

abbrev pub lane : Scene → ℕ → ℕ
lane s machine = 230 + 56 * machine + 20 * owned_before s machine

abbrev pub lane_height : Scene → ℕ → ℕ
lane_height s machine = 42 + 20 * owned s machine (thing_count s)

abbrev pub row : Scene → ℕ → ℕ
row s thing = lane s (owner_of s thing) + 44 + 20 * owned s (owner_of s thing) thing

-- the heights of a place's arrows: of that which comes from outside, and of that which goes there
abbrev pub source_line : Scene → ℕ → ℕ
source_line s thing = row s thing - 4

abbrev pub sink_line : Scene → ℕ → ℕ
sink_line s thing = row s thing + 4

-- ---- the left ends of columns, and the size of the whole

abbrev pub column : ℕ → ℕ
column number = 300 + 140 * number

abbrev pub zone_column : Scene → ℕ → ℕ
zone_column s zone = column (zones_before s s.word + zone)

abbrev pub hazard_column : Scene → ℕ → ℕ
hazard_column s hazard = column (all_zones s + hazard)

abbrev pub width : Scene → ℕ
width s = hazard_column s (length s.hazard_names) + 230

abbrev pub height : Scene → ℕ
height s = lane s (length s.named.machines) + 70
