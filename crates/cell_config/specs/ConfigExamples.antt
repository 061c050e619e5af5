-- Configurations and what they say, or why they are refused: the first of several faults.
use Rattle.std.specs.Prelude.{◌≡◌, ℕ, pos, Bool, true, false, List, [], ◌∷◌, ◌++◌, map, codes, Ok, Err}
use Rattle.cell_rules.specs.Types.{Machine, Feed, Table, Robot, Press, Deposit, Crane, Watch}
use Rattle.cell_rules.specs.Names.{empty, place_set, start_state}
use Rattle.cell_sensors.specs.Names.{Scale, Pair, ends_of}
use Rattle.cell_notes.specs.declared.schedule.Turn.{Turn}
use Rattle.cell_config.specs.ConfigWords.{config_fault_text}
use Rattle.cell_config.specs.Settings.{Settings, max_bytes_read, settings_of}
use Rattle.cell_config.specs.declared.fault.ConfigFault.{ConfigFault}
use Rattle.cell_config.specs.declared.fault.ConfigFault.TheVariants.{Read, Long, Text, Unknown, Missing, Kind, Start}
use Rattle.cell_config.specs.declared.fault.ConfigFault.TheVariants.{Range, Letter, Memory}

abbrev pub IsRefused : List ℕ → ConfigFault → Type 0
IsRefused text fault = settings_of text ≡ Err fault

abbrev pub Gives : List ℕ → Settings → Type 0
Gives text settings = settings_of text ≡ Ok settings

-- a text after a valid start
abbrev pub with_start : List ℕ → List ℕ
with_start more = codes "start = '0000000000'\n" ++ more

-- ---- what configurations say

abbrev pub scale : ℕ → ℕ → ℕ → ℕ → Scale
scale raw_lo raw_hi end tol = record { raw_lo = raw_lo; raw_hi = raw_hi; at_lo = pos 0; at_hi = pos end; tol = pos tol }

-- the curves of lines
abbrev pub of_lines : List Scale → List (List Pair)
of_lines scales = map ends_of scales

abbrev pub turn : Machine → Bool → Turn
turn machine busy = record { machine = machine; busy = busy }

abbrev pub by_default : Settings
by_default = record {
  start = start_state empty 0;
  schedule = [];
  points =
      scale 0 4000 1000 5 ∷ scale 0 4000 1000 5 ∷ scale 0 4000 2000 5 ∷ scale 0 4000 500 5
      ∷ scale 0 4000 1000 5 ∷ [];
  curves =
      of_lines (scale 0 4000 1000 5 ∷ scale 0 4000 1000 5 ∷ scale 0 4000 2000 5 ∷ scale 0 4000 500 5
      ∷ scale 0 4000 1000 5 ∷ []);
}

abbrev pub all_given : List ℕ
all_given =
    codes "gripper.raw = [64535, 65535]\narm2.tol = 2\narm2.points = [[0, 0], [2000, 501], [4000, 1000]]\n"
    ++ codes "turn = { points = [[100, 0], [101, 0], [599, 490], [600, 500]], tol = 10, raw = [100, 600] }\n"
    ++ codes "rotation.raw = [1, 2001]\n"
    ++ codes "arm1 = { raw = [10, 1010], tol = 1, points = [[10, 0], [1010, 1000]] }\nschedule = 'ftrpdcwFTRPDCW'\n"
    ++ codes "stamp = 1048575\nstart = '0100000001'\n"

abbrev pub as_given : Settings
as_given = record {
  start = start_state (place_set false true false false false false false false false true) 1048575;
  schedule =
      turn Feed false ∷ turn Table false ∷ turn Robot false ∷ turn Press false ∷ turn Deposit false ∷ turn Crane false
      ∷ turn Watch false ∷ turn Feed true ∷ turn Table true ∷ turn Robot true ∷ turn Press true ∷ turn Deposit true
      ∷ turn Crane true ∷ turn Watch true ∷ [];
  points =
      scale 10 1010 1000 1 ∷ scale 0 4000 1000 2 ∷ scale 1 2001 2000 5 ∷ scale 100 600 500 10
      ∷ scale 64535 65535 1000 5 ∷ [];
  curves =
      ((10, pos 0) ∷ (1010, pos 1000) ∷ []) ∷ ((0, pos 0) ∷ (2000, pos 501) ∷ (4000, pos 1000) ∷ [])
      ∷ ends_of (scale 1 2001 2000 5)
      ∷ ((100, pos 0) ∷ (101, pos 0) ∷ (599, pos 490) ∷ (600, pos 500) ∷ []) ∷ ends_of (scale 64535 65535 1000 5) ∷ [];
}

pub record GivenExamples : Type 0 where
  pub start_alone : Gives (with_start []) by_default
  pub all : Gives all_given as_given

-- ---- keys

pub record KeyExamples : Type 0 where
  pub no_start : IsRefused [] Missing
  pub no_start_before_stamp : IsRefused (codes "stamp = -1") Missing
  pub other_key : IsRefused (codes "colour = 1") Unknown
  pub capital_key : IsRefused (codes "Start = '0000000000'") Unknown
  pub key_of_section : IsRefused (with_start (codes "tol = 5")) Unknown
  pub key_of_top : IsRefused (with_start (codes "arm1.stamp = 5")) Unknown
  pub key_before_kind : IsRefused (codes "start = 5\ngripper.colour = 1") Unknown
  pub table_at_start : IsRefused (codes "start.colour = 1") Kind
  pub table_at_stamp : IsRefused (with_start (codes "stamp.raw = 1")) Kind
  pub table_at_raw : IsRefused (with_start (codes "arm1.raw.colour = 1")) Kind
  pub array_of_sections : IsRefused (with_start (codes "[[arm1]]\ncolour = 1")) Kind

-- ---- values

abbrev pub IsNo : List ℕ → ConfigFault → Type 0
IsNo more fault = IsRefused (with_start more) fault

pub record ValueExamples : Type 0 where
  pub start_kind : IsRefused (codes "start = 0") Kind
  pub start_digits : IsRefused (codes "start = '000000000'") Start
  pub start_press : IsRefused (codes "start = '0000110000'") Start
  pub stamp_kind : IsNo (codes "stamp = '0'") Kind
  pub stamp_below : IsNo (codes "stamp = -1") Range
  pub stamp_above : IsNo (codes "stamp = 1048576") Range
  pub schedule_kind : IsNo (codes "schedule = ['p']") Kind
  pub schedule_letter : IsNo (codes "schedule = 'pv'") Letter
  pub section_kind : IsNo (codes "turn = 5") Kind
  pub raw_kind : IsNo (codes "turn.raw = 4000") Kind
  pub raw_of_one : IsNo (codes "turn.raw = [0]") Kind
  pub raw_of_three : IsNo (codes "turn.raw = [0, 4000, 4000]") Kind
  pub raw_text : IsNo (codes "turn.raw = [-1, '4000']") Kind
  pub raw_below : IsNo (codes "turn.raw = [-1, 4000]") Range
  pub raw_above : IsNo (codes "turn.raw = [0, 65536]") Range
  pub raw_falls : IsNo (codes "turn.raw = [4000, 0]") Range
  pub arm1_narrow : IsNo (codes "arm1.raw = [0, 999]") Range
  pub arm2_narrow : IsNo (codes "arm2.raw = [1, 1000]") Range
  pub rotation_narrow : IsNo (codes "rotation.raw = [0, 1999]") Range
  pub turn_narrow : IsNo (codes "turn.raw = [0, 499]") Range
  pub gripper_narrow : IsNo (codes "gripper.raw = [0, 999]") Range
  pub tol_kind : IsNo (codes "turn.tol = '5'") Kind
  pub tol_below : IsNo (codes "turn.tol = 0") Range
  pub tol_above : IsNo (codes "turn.tol = 11") Range
  pub points_number : IsNo (codes "arm1.points = 3") Kind
  pub points_flat : IsNo (codes "arm1.points = [0, 0]") Kind
  pub points_of_three : IsNo (codes "arm1.points = [[0, 0, 0], [4000, 1000]]") Kind
  pub points_text : IsNo (codes "arm1.points = [[0, 0], [4000, '1000']]") Kind
  pub points_none : IsNo (codes "arm1.points = []") Range
  pub points_one : IsNo (codes "arm1.points = [[0, 0]]") Range
  pub points_end : IsNo (codes "arm1.points = [[0, 0], [3999, 1000]]") Range
  pub points_order : IsNo (codes "arm1.points = [[0, 0], [2000, 500], [2000, 500], [4000, 1000]]") Range
  pub points_outside : IsNo (codes "arm1.points = [[0, 0], [4000, 1001]]") Range
  pub points_far : IsNo (codes "arm1.points = [[0, 0], [1000, 255], [4000, 1000]]") Range
  pub points_fine : IsNo (codes "arm1.tol = 1\narm1.points = [[0, 0], [1000, 251], [4000, 1000]]") Range
  pub points_raw_below : IsNo (codes "arm1.points = [[-1, 0], [4000, 1000]]") Range
  pub points_raw_above : IsNo (codes "arm1.points = [[0, 0], [65536, 1000]]") Range
  pub points_at_above : IsNo (codes "arm1.points = [[0, 0], [2000, 2147483648], [4000, 1000]]") Range

-- ---- two faults: the first in the order of the keys; of a section, then of its raw values, then of its tolerance

pub record FirstExamples : Type 0 where
  pub start_then_stamp : IsRefused (codes "start = '000'\nstamp = '0'") Start
  pub stamp_then_whole_start : IsRefused (codes "start = '0000110000'\nstamp = -1") Range
  pub whole_start_then_schedule : IsRefused (codes "start = '0000110000'\nschedule = 5") Start
  pub stamp_then_schedule : IsNo (codes "schedule = 'x'\nstamp = -1") Range
  pub schedule_then_arm1 : IsNo (codes "arm1 = 5\nschedule = 'x'") Letter
  pub arm1_then_arm2 : IsNo (codes "arm2 = 5\narm1.tol = 11") Range
  pub arm2_then_rotation : IsNo (codes "rotation = 5\narm2.tol = 11") Range
  pub rotation_then_turn : IsNo (codes "turn = 5\nrotation.tol = 11") Range
  pub turn_then_gripper : IsNo (codes "gripper = 5\nturn.tol = 11") Range
  pub raw_then_tol : IsNo (codes "arm1.tol = '5'\narm1.raw = [0, 999]") Range
  pub tol_after_raw : IsNo (codes "arm1.tol = 11\narm1.raw = [0]") Kind
  pub tol_then_points : IsNo (codes "arm1.points = 3\narm1.tol = 11") Range
  pub points_then_arm2 : IsNo (codes "arm2 = 5\narm1.points = [[0, 0]]") Range
  pub points_kind_then_number : IsNo (codes "arm1.points = [[-1, 0], 5]") Kind
  pub no_text : IsRefused (codes "start = '000'\ncolour =") Text

-- ---- words

abbrev pub faults : List ConfigFault
faults = Read ∷ Long ∷ Text ∷ Unknown ∷ Missing ∷ Kind ∷ Start ∷ Range ∷ Letter ∷ Memory ∷ []

pub record WordExamples : Type 0 where
  pub words : map config_fault_text faults
      ≡ codes "read" ∷ codes "config long" ∷ codes "config text" ∷ codes "config unknown" ∷ codes "config missing"
      ∷ codes "config kind" ∷ codes "config start" ∷ codes "config range" ∷ codes "config letter" ∷ codes "memory" ∷ []
  pub bytes_read : max_bytes_read ≡ 2097153

pub record ConfigsAreMet : Type 0 where
  pub given : GivenExamples
  pub keys : KeyExamples
  pub values : ValueExamples
  pub first : FirstExamples
  pub words : WordExamples
