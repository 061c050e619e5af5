-- Laws of refusals: of a table one thing alone may be said, and it is so.
use Rattle.std.specs.Prelude.{◌≡◌, ◌≤◌, ◌<◌, List, length, true, false, Option, Some, None, Err, IsOk}
use Rattle.std.specs.List.{filter_map, list_all}
use Rattle.toml.specs.Data.{Data, Members}
use Rattle.cell_sensors.specs.Names.{Pair, Scale, is_curve}
use Rattle.cell_sensors.specs.declared.curve.CurveFault.{CurveFault}
use Rattle.cell_sensors.specs.declared.curve.CurveFault.TheVariants.{Count}
use Rattle.cell_sensors.specs.CurveFaults.{IsFirstFault as IsFirstCurveFault}
use Rattle.cell_config.specs.RefusedSections.{HasCurveFault, IsCurveFault, IsFirstRefusal, config_fault_of}
use Rattle.cell_config.specs.RefusedSections.{section_by_key}
use Rattle.cell_config.specs.Settings.{is_measured, measured_of, sections_at}
use Rattle.cell_config.specs.declared.refused_sections.SectionFault.{SectionFault}
use Rattle.cell_config.specs.declared.refused_sections.SectionKey.{SectionKey}
use Rattle.cell_config.specs.declared.refused_sections.SectionKey.TheVariants.{Arm1, Arm2, Rotation, Turn, Gripper}

-- ---- curves

-- of any values one thing alone may be said
abbrev pub OneCurveFault : Type 0
OneCurveFault =
    (line : Scale) (values : List Data) (a b : Option CurveFault) → IsCurveFault line values a
    → IsCurveFault line values b → a ≡ b

-- what is said of pairs: they make a curve, or this is their first fault
pub record PairsAreJudged (line : Scale) (pairs : List Pair) (fault : CurveFault) : Type 0 where
  pub curve : HasCurveFault line pairs None → is_curve line pairs ≡ true
  pub no_curve : HasCurveFault line pairs (Some fault) → IsFirstCurveFault line pairs fault
  pub is_curve : is_curve line pairs ≡ true → HasCurveFault line pairs None
  pub is_no_curve : IsFirstCurveFault line pairs fault → HasCurveFault line pairs (Some fault)

-- what is said of values
pub record ValuesAreJudged (line : Scale) (values : List Data) (fault : CurveFault) : Type 0 where
  pub many : 32 < length values → IsCurveFault line values (Some fault) → fault ≡ Count
  pub many_have : 32 < length values → IsCurveFault line values None → ⊥
  pub unfit : length values ≤ 32 → list_all is_measured values ≡ false → IsCurveFault line values (Some fault) → ⊥
  pub first : length values ≤ 32 → list_all is_measured values ≡ true → IsCurveFault line values (Some fault)
      → IsFirstCurveFault line (filter_map measured_of values) fault

-- ---- sections

-- of any table one section alone may be named, and one fault
abbrev pub OneRefusal : Type 0
OneRefusal =
    (table : Members) (key other : SectionKey) (fault another : SectionFault) → IsFirstRefusal table key fault
    → IsFirstRefusal table other another → (key ≡ other) × (fault ≡ another)

abbrev pub IsTaken : Members → SectionKey → Type 0
IsTaken table key = IsOk (section_by_key key table)

-- the section that is named is refused for what is said, and those before it in this order are taken
pub record RefusalsAreFirst (table : Members) (fault : SectionFault) : Type 0 where
  pub arm2 : IsFirstRefusal table Arm2 fault → IsTaken table Arm1
  pub rotation : IsFirstRefusal table Rotation fault → IsTaken table Arm1 × IsTaken table Arm2
  pub turn : IsFirstRefusal table Turn fault → IsTaken table Arm1 × IsTaken table Arm2 × IsTaken table Rotation
  pub gripper : IsFirstRefusal table Gripper fault
      → IsTaken table Arm1 × IsTaken table Arm2 × IsTaken table Rotation × IsTaken table Turn
  pub refused : (key : SectionKey) → IsFirstRefusal table key fault
      → (section_by_key key table ≡ Err (config_fault_of fault)) × (sections_at table ≡ Err (config_fault_of fault))
