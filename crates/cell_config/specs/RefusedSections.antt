-- Which section is refused, and why.
use Rattle.std.specs.Prelude.{◌≡◌, ◌≤◌, ◌<◌, ℕ, ℤ, List, [], ◌∷◌, length, codes, find, is_err, true, false}
use Rattle.std.specs.Prelude.{Option, Some, None, MatchOption, IsOk}
use Rattle.std.specs.Prelude.{Result, Ok, Err}
use Rattle.std.specs.List.{filter_map, list_all}
use Rattle.std.specs.Option.{option_and_then}
use Rattle.toml.specs.Data.{Data, Members, as_table, get_member}
use Rattle.cell_sensors.specs.Names.{Scale, Pair, IsCurve}
use Rattle.cell_sensors.specs.declared.curve.CurveFault.{CurveFault}
use Rattle.cell_sensors.specs.declared.curve.CurveFault.TheVariants.{Count}
use Rattle.cell_sensors.specs.CurveFaults.{IsFirstFault as IsFirstCurveFault}
use Rattle.cell_parts.specs.Axes.{arm_end, rotation_end, turn_end, gripper_end}
use Rattle.cell_config.specs.Settings.{axis_scale, is_measured, measured_of, pairs_at, pairs_in, raw_at, section_at}
use Rattle.cell_config.specs.Settings.{sections_at}
use Rattle.cell_config.specs.Settings.{Section, tol_at}
use Rattle.cell_config.specs.declared.fault.ConfigFault.{ConfigFault}
use Rattle.cell_config.specs.declared.fault.ConfigFault.TheVariants.{Kind}
use Rattle.cell_config.specs.declared.refused_sections.SectionFault.{SectionFault}
use Rattle.cell_config.specs.declared.refused_sections.SectionFault.TheVariants.{NoTable, Raw, Tol, Points}
use Rattle.cell_config.specs.declared.refused_sections.SectionKey.{SectionKey}
use Rattle.cell_config.specs.declared.refused_sections.SectionKey.TheVariants.{Arm1, Arm2, Rotation, Turn, Gripper}

abbrev pub key_of : SectionKey → List ℕ
key_of Arm1 = codes "arm1"
key_of Arm2 = codes "arm2"
key_of Rotation = codes "rotation"
key_of Turn = codes "turn"
key_of Gripper = codes "gripper"

-- the end of its axis
abbrev pub end_of : SectionKey → ℤ
end_of Arm1 = arm_end
end_of Arm2 = arm_end
end_of Rotation = rotation_end
end_of Turn = turn_end
end_of Gripper = gripper_end

abbrev pub section_by_key : SectionKey → Members → Result Section ConfigFault
section_by_key key = section_at (key_of key) (end_of key)

-- the first section that is refused, in the order in which they are checked
abbrev pub first_refused : Members → Option SectionKey
first_refused ms = find (λ key. is_err (section_by_key key ms)) (Arm1 ∷ Arm2 ∷ Rotation ∷ Turn ∷ Gripper ∷ [])

-- the fault of a configuration with this fault of a section
abbrev pub config_fault_of : SectionFault → ConfigFault
config_fault_of NoTable = Kind
config_fault_of (Raw fault) = fault
config_fault_of (Tol fault) = fault
config_fault_of (Points fault line curve) = fault

-- pairs whose numbers all fit have this first fault as a curve, or make one
abbrev pub HasCurveFault : Scale → List Pair → Option CurveFault → Type 0
HasCurveFault line pairs None = IsCurve line pairs
HasCurveFault line pairs (Some fault) = IsFirstCurveFault line pairs fault

-- the most pairs of a curve
abbrev pub max_pairs : ℕ
max_pairs = 32

-- Too many values come first. Else pairs of which a number doesn't fit have no fault as a curve.
pub record IsCurveFault (line : Scale) (values : List Data) (curve : Option CurveFault) : Type 0 where
  pub fits : list_all is_measured values ≡ true → HasCurveFault line (filter_map measured_of values) curve
  pub many : max_pairs < length values → curve ≡ Some Count
  pub unfit : length values ≤ max_pairs → list_all is_measured values ≡ false → curve ≡ None

-- the values of a section's pairs
abbrev pub pairs_given : Members → Option (List Data)
pairs_given section = option_and_then pairs_in (get_member (codes "points") section)

-- the first of a section's keys with a fault, in the order raw, tol, points
abbrev pub IsFirstKey : ℤ → Members → SectionFault → Type 0
IsFirstKey end section NoTable = ⊥
IsFirstKey end section (Raw fault) = raw_at end section ≡ Err fault
IsFirstKey end section (Tol fault) = IsOk (raw_at end section) × (tol_at section ≡ Err fault)
IsFirstKey end section (Points fault line curve) =
    (raw : ℕ × ℕ) × (tol : ℕ) × (raw_at end section ≡ Ok raw) × (tol_at section ≡ Ok tol)
    × (line ≡ axis_scale end raw tol) × (pairs_at line section ≡ Err fault)
    × MatchOption (pairs_given section) (curve ≡ None) (λ values. IsCurveFault line values curve)

-- a value that is refused as a section is no table, or one of its keys has this fault
abbrev pub IsFirstFault : ℤ → Option Members → SectionFault → Type 0
IsFirstFault end None fault = fault ≡ NoTable
IsFirstFault end (Some section) fault = IsFirstKey end section fault

-- the table at a key
abbrev pub table_given : List ℕ → Members → Option Members
table_given key ms = option_and_then as_table (get_member key ms)

-- A section with this key is refused, and this is why.
pub record IsRefusal (ms : Members) (key : SectionKey) (fault : SectionFault) : Type 0 where
  pub refused : section_by_key key ms ≡ Err (config_fault_of fault)
  pub first : IsFirstFault (end_of key) (table_given (key_of key) ms) fault

-- The first section that is refused, and why: its fault is that of the five sections.
pub record IsFirstRefusal (ms : Members) (key : SectionKey) (fault : SectionFault) : Type 0 where
  pub section : first_refused ms ≡ Some key
  pub config_fault : sections_at ms ≡ Err (config_fault_of fault)
  pub why : IsRefusal ms key fault
