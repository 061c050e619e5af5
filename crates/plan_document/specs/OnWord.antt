-- The document of one word of a plant: of the plant's document the rows that are about the word's zones, poses and
-- places. It has all machines, motors and hazards, and all texts that name nothing of another word.
use Rattle.std.specs.Prelude.{ℕ, ◌+◌, Bool, ◌||◌, not, nat_eq, List, [], ◌∷◌, codes, length, map, filter, drop}
use Rattle.std.specs.Prelude.{slice_get, Option, Some, None, is_some, if◌then◌else◌}
use Rattle.std.specs.List.{range_with_len, list_any, filter_map, flat_map}
use Rattle.std.specs.Str.{bytes_eq}
use Rattle.plan_text.specs.Names.{Text, name_in, number_in}
use Rattle.plan_text.specs.Calls.{verb_of}
use Rattle.plan_text.specs.declared.calls.Verb.{Verb}
use Rattle.plan_text.specs.declared.calls.Verb.TheVariants as verbs
use Rattle.plan_words.specs.Group.{Group}
use Rattle.plan_document.specs.declared.naming.KindNames.{KindNames}
use Rattle.plan_document.specs.Texts.{PostureTexts, PoseTexts, MachineTexts, ZoneTexts, MotorTexts, DocumentTexts}

-- those of a list with these numbers
abbrev pub picked : {X : Type 0} → List X → List ℕ → List X
picked xs numbers = filter_map (slice_get xs) numbers

-- the numbers of those texts that pass a test
abbrev pub numbers_of : (Text → Bool) → List Text → List ℕ
numbers_of test texts = filter (λ k. test (name_in texts k)) (range_with_len 0 (length texts))

-- ---- names

-- the names of one kind in a plant, and those on one word
abbrev pub names_on : List Text → List ℕ → KindNames
names_on all numbers = record { all = all; own = picked all numbers }

abbrev pub is_name_of : List Text → Text → Bool
is_name_of names name = is_some (number_in names name)

-- a name is one of the word's, or of no word
abbrev pub is_here : KindNames → Text → Bool
is_here names name = is_name_of names.own name || not (is_name_of names.all name)

abbrev pub texts_here : KindNames → List Text → List Text
texts_here names texts = picked texts (numbers_of (is_here names) texts)

abbrev pub zones_named : List PostureTexts → List Text
zones_named rows = map (λ (row : PostureTexts). row.zone) rows

abbrev pub postures_here : KindNames → List PostureTexts → List PostureTexts
postures_here names rows = picked rows (numbers_of (is_here names) (zones_named rows))

-- ---- lines of programs

-- what stands before the first blank, and between it and the second one
unfoldable pub first_word : Text → Text
first_word [] = []
first_word (byte ∷ bytes) = if nat_eq byte 32 then [] else byte ∷ first_word bytes

abbrev pub second_word : Text → Text
second_word line = first_word (drop (length (first_word line) + 1) line)

-- a line is about a pose, a place or a zone, by its verb; each other line stands on all words
abbrev pub stands_by : KindNames → KindNames → KindNames → Text → Text → Option Verb → Bool
stands_by zones places poses verb name None = not (bytes_eq verb (codes "await")) || is_here zones name
stands_by zones places poses verb name (Some verbs.Pose) = is_here poses name
stands_by zones places poses verb name (Some verbs.Advance) = is_here places name
stands_by zones places poses verb name (Some verbs.Claim) = is_here zones name
stands_by zones places poses verb name (Some verbs.Give) = is_here zones name
stands_by zones places poses verb name (Some verbs.Yield) = is_here zones name
stands_by zones places poses verb name (Some verbs.Take) = is_here zones name
stands_by zones places poses verb name (Some verbs.Release) = is_here zones name
stands_by zones places poses verb name (Some verbs.Inquire) = is_here zones name

abbrev pub stands_on : KindNames → KindNames → KindNames → Text → Bool
stands_on zones places poses line =
    stands_by zones places poses (first_word line) (second_word line) (verb_of (first_word line))

abbrev pub lines_here : KindNames → KindNames → KindNames → List Text → List Text
lines_here zones places poses lines = picked lines (numbers_of (stands_on zones places poses) lines)

-- ---- machines

abbrev pub has_number : List ℕ → ℕ → Bool
has_number numbers n = list_any (nat_eq n) numbers

-- of a machine's poses, which the plant numbers from `first`, those of the word
abbrev pub poses_here : ℕ → List ℕ → List PoseTexts → List PoseTexts
poses_here first numbers poses =
    picked poses (filter (λ k. has_number numbers (first + k)) (range_with_len 0 (length poses)))

abbrev pub names_of_poses : List PoseTexts → List Text
names_of_poses poses = map (λ (pose : PoseTexts). pose.name) poses

abbrev pub poses_on : List PoseTexts → List PoseTexts → KindNames
poses_on all own = record { all = names_of_poses all; own = names_of_poses own }

abbrev pub machine_with : KindNames → KindNames → List PoseTexts → MachineTexts → MachineTexts
machine_with zones places poses row = record {
  name = row.name;
  places = texts_here places row.places;
  sources = texts_here places row.sources;
  sinks = texts_here places row.sinks;
  poses = poses;
  sensors = row.sensors;
  program = lines_here zones places (poses_on row.poses poses) row.program;
}

unfoldable pub machines_from : KindNames → KindNames → List ℕ → ℕ → List MachineTexts → List MachineTexts
machines_from zones places poses first [] = []
machines_from zones places poses first (row ∷ rows) =
    machine_with zones places (poses_here first poses row.poses) row
    ∷ machines_from zones places poses (first + length row.poses) rows

-- ---- motors

abbrev pub motor_with : KindNames → KindNames → MotorTexts → MotorTexts
motor_with zones places row = record {
  name = row.name;
  machine = row.machine;
  holds = postures_here zones row.holds;
  stands = postures_here zones row.stands;
  full = texts_here places row.full;
  empty = texts_here places row.empty;
}

-- ---- the document

abbrev pub zones_on : DocumentTexts → Group → KindNames
zones_on d g = names_on (map (λ (row : ZoneTexts). row.name) d.zones) g.zones

abbrev pub places_on : DocumentTexts → Group → KindNames
places_on d g = names_on (flat_map (λ (row : MachineTexts). row.places) d.machines) g.places

abbrev pub texts_on : DocumentTexts → Group → DocumentTexts
texts_on d g = record {
  machines = machines_from (zones_on d g) (places_on d g) g.poses 0 d.machines;
  zones = picked d.zones g.zones;
  motors = map (motor_with (zones_on d g) (places_on d g)) d.motors;
  hazards = d.hazards;
}
