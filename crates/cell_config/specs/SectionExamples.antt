-- Sections that are refused, and the only thing that may be said of each.
use Rattle.std.specs.Prelude.{◌≡◌, ℕ, ℤ, pos, negsuc, List, [], ◌∷◌, codes, replicate, Option, Some, None}
use Rattle.toml.specs.Data.{Data, Members, array, integer, item, member, no_items, no_members, table}
use Rattle.cell_sensors.specs.Names.{Scale}
use Rattle.cell_sensors.specs.declared.curve.CurveFault.{CurveFault}
use Rattle.cell_sensors.specs.declared.curve.CurveFault.TheVariants.{Count, Ends, Order, OffLine}
use Rattle.cell_parts.specs.Axes.{arm_end}
use Rattle.cell_config.specs.Settings.{axis_scale}
use Rattle.cell_config.specs.RefusedSections.{IsCurveFault, IsFirstKey, IsFirstRefusal}
use Rattle.cell_config.specs.declared.fault.ConfigFault.TheVariants.{Kind, Range}
use Rattle.cell_config.specs.declared.refused_sections.SectionFault.{SectionFault}
use Rattle.cell_config.specs.declared.refused_sections.SectionFault.TheVariants.{NoTable, Raw, Tol, Points}
use Rattle.cell_config.specs.declared.refused_sections.SectionKey.{SectionKey}
use Rattle.cell_config.specs.declared.refused_sections.SectionKey.TheVariants.{Arm1, Arm2}

abbrev pub two : ℤ → ℤ → Data
two first second = array (item (integer first) (item (integer second) no_items))

-- the first arm's line, with the default raw values and tolerance
abbrev pub line : Scale
line = axis_scale arm_end (0, 4000) 5

-- ---- the pairs of a curve

abbrev pub IsSaidOfPairs : List Data → Option CurveFault → Type 0
IsSaidOfPairs values said = (given : Option CurveFault) → IsCurveFault line values given → given ≡ said

-- a negative raw value fits no pair
abbrev pub unfit : ℕ → List Data
unfit count = replicate count (two (negsuc 0) (pos 0))

abbrev pub from : ℤ → ℤ → List Data → List Data
from raw position more = two raw position ∷ more

-- 32 pairs of which a number doesn't fit have no fault as a curve; more have, whether their numbers fit or not
pub record PairsExamples : Type 0 where
  pub most_unfit : IsSaidOfPairs (unfit 32) None
  pub many_unfit : IsSaidOfPairs (unfit 33) (Some Count)
  pub twice_as_many_unfit : IsSaidOfPairs (unfit 64) (Some Count)
  pub twice_as_many_fit : IsSaidOfPairs (replicate 64 (two (pos 0) (pos 0))) (Some Count)
  pub one : IsSaidOfPairs (from (pos 0) (pos 0) []) (Some Count)
  pub ends : IsSaidOfPairs (from (pos 0) (pos 0) (from (pos 3999) (pos 1000) [])) (Some Ends)
  pub order : IsSaidOfPairs (from (pos 0) (pos 0) (from (pos 0) (pos 0) (from (pos 4000) (pos 1000) []))) (Some Order)
  pub off_line : IsSaidOfPairs (from (pos 0) (pos 0) (from (pos 4000) (pos 1001) [])) (Some OffLine)
  pub line : IsSaidOfPairs (from (pos 0) (pos 0) (from (pos 4000) (pos 1000) [])) None

-- ---- the keys of a section

abbrev pub IsSaidOfSection : Members → SectionFault → Type 0
IsSaidOfSection section said = (given : SectionFault) → IsFirstKey arm_end section given → given ≡ said

abbrev pub with_tol : ℤ → Members → Members
with_tol tol more = member (codes "tol") (integer tol) more

abbrev pub with_points : Data → Members → Members
with_points points more = member (codes "points") points more

abbrev pub raw_and_tol : Members
raw_and_tol = with_tol (pos 11) (member (codes "raw") (two (pos 0) (pos 999)) no_members)

abbrev pub tol_and_points : Members
tol_and_points = with_points (array no_items) (with_tol (pos 11) no_members)

abbrev pub points_alone : Members
points_alone = with_points (array no_items) no_members

abbrev pub points_no_array : Members
points_no_array = with_points (integer (pos 3)) no_members

-- two keys with the same fault: the first in the order raw, tol, points; then points alone
pub record SectionExamples : Type 0 where
  pub raw_then_tol : IsSaidOfSection raw_and_tol (Raw Range)
  pub tol_then_points : IsSaidOfSection tol_and_points (Tol Range)
  pub points_alone : IsSaidOfSection points_alone (Points Range line (Some Count))
  pub points_no_array : IsSaidOfSection points_no_array (Points Kind line None)

-- ---- the sections

abbrev pub IsSaidOfTable : Members → SectionKey → SectionFault → Type 0
IsSaidOfTable ms key said = (k : SectionKey) (given : SectionFault) → IsFirstRefusal ms k given
    → (k ≡ key) × (given ≡ said)

abbrev pub tol_of_none : Data
tol_of_none = table (with_tol (pos 0) no_members)

abbrev pub arm2_after_turn : Members
arm2_after_turn = member (codes "turn") (integer (pos 5)) (member (codes "arm2") tol_of_none no_members)

abbrev pub arm1_after_arm2 : Members
arm1_after_arm2 = member (codes "arm2") tol_of_none (member (codes "arm1") (integer (pos 5)) no_members)

-- the first section in the order of the axes, whatever their order in the text
pub record TableExamples : Type 0 where
  pub arm2_after_turn : IsSaidOfTable arm2_after_turn Arm2 (Tol Range)
  pub arm1_after_arm2 : IsSaidOfTable arm1_after_arm2 Arm1 NoTable

pub record SectionsAreMet : Type 0 where
  pub pairs : PairsExamples
  pub sections : SectionExamples
  pub tables : TableExamples
