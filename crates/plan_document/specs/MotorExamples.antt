-- What the rows of motors and hazards say, in examples, and of which TOML they are read.
use Rattle.std.specs.Prelude.{◌≡◌, ◌≢◌, true, false, List, [], ◌∷◌, codes, map, String, string_bytes, Some, None}
use Rattle.std.specs.declared.alloc.Global.{Global}
use Rattle.toml.specs.Data.{Data, Members, get_member, member, string, table}
use Rattle.plan_types.specs.declared.posture.Posture.TheVariants.{Closed, Moving, OpenIn}
use Rattle.plan_types.specs.Examples.{lift_table}
use Rattle.plan_motors.specs.declared.motor.Hazard.{Hazard}
use Rattle.plan_motors.specs.declared.motor.Motor.{Motor}
use Rattle.plan_motors.specs.Motor.{need_of, no_need, place_need}
use Rattle.plan_motors.specs.OfPlan.{AreMotorsOf}
use Rattle.plan_text.specs.Named.{Named, named}
use Rattle.plan_text.specs.Names.{Text}
use Rattle.plan_document.specs.declared.document.Document.{Document}
use Rattle.plan_document.specs.declared.document.HazardRow.{HazardRow}
use Rattle.plan_document.specs.declared.document.MotorRow.{MotorRow}
use Rattle.plan_document.specs.declared.document.PostureRow.{PostureRow}
use Rattle.plan_document.specs.declared.resolving.ProgrammedPlan.{ProgrammedPlan}
use Rattle.plan_document.specs.Motors.{IsHazardOf, IsMotorOf, held_need, need}
use Rattle.plan_document.specs.PlanExamples.{AreApart, Gives, letters}
use Rattle.plan_document.specs.Reading.{ArePostures, IsDocumentIn, IsHazardIn, IsMotorIn, HasRows, items_at, written}
use Rattle.plan_document.specs.ReadingExamples.{two_items}
use Rattle.plan_document.specs.Saying.{IsPlanOf}

-- ---- rows

-- words under `holds`, and what is needed of a zone that is under one key or under none
pub record NeedsAreMade : Type 0 where
  pub any : held_need (codes "any") ≡ Some (record { holds = true; posture = None })
  pub posture : held_need (codes "openin") ≡ Some (record { holds = true; posture = Some OpenIn })
  pub no_word : held_need (codes "anyone") ≡ None
  pub held : need (held_need (codes "moving")) None ≡ record { holds = true; posture = Some Moving }
  pub stands : need None (Some Closed) ≡ record { holds = false; posture = Some Closed }
  pub none : need None None ≡ no_need

-- machines, zones and places have the names a to j
abbrev pub lettered : Named
lettered = named lift_table letters letters letters []

-- a motor of which these rows say what it needs of zones
pub record Needs (row : MotorRow) (held standing : List PostureRow) : Type 0 where
  pub holds : row.holds.items ≡ held
  pub stands : row.stands.items ≡ standing

pub record ZonesAreNeeded (row : MotorRow) (motor : Motor) (a b : PostureRow) (is : IsMotorOf lettered row motor)
    : Type 0 where
  pub held : Needs row (a ∷ []) [] → Gives a (codes "c") (codes "moving")
      → need_of motor 2 ≡ record { holds = true; posture = Some Moving }
  pub any : Needs row (a ∷ []) [] → Gives a (codes "j") (codes "any")
      → need_of motor 9 ≡ record { holds = true; posture = None }
  pub stands : Needs row [] (a ∷ []) → Gives a (codes "c") (codes "closed")
      → need_of motor 2 ≡ record { holds = false; posture = Some Closed }
  pub other : Needs row (a ∷ []) [] → Gives a (codes "c") (codes "moving") → need_of motor 1 ≡ no_need
  -- both keys, of two zones; of one zone they are refused
  pub first : Needs row (a ∷ []) (b ∷ []) → Gives a (codes "c") (codes "any") → Gives b (codes "d") (codes "closed")
      → need_of motor 2 ≡ record { holds = true; posture = None }
  pub second : Needs row (a ∷ []) (b ∷ []) → Gives a (codes "c") (codes "any") → Gives b (codes "d") (codes "closed")
      → need_of motor 3 ≡ record { holds = false; posture = Some Closed }
  pub twice : Needs row (a ∷ []) (b ∷ []) → Gives a (codes "c") (codes "any") → Gives b (codes "c") (codes "closed") → ⊥
  pub any_stands : Needs row [] (a ∷ []) → Gives a (codes "c") (codes "any") → ⊥
  pub no_zone : Needs row (a ∷ []) [] → Gives a (codes "x") (codes "any") → ⊥

-- a motor of which these names say what it needs of places
pub record NeedsPlaces (row : MotorRow) (filled emptied : List (String Global)) : Type 0 where
  pub full : row.full.items ≡ filled
  pub empty : row.empty.items ≡ emptied

pub record PlacesAreNeeded (row : MotorRow) (motor : Motor) (a b : String Global) (is : IsMotorOf lettered row motor)
    : Type 0 where
  pub full : NeedsPlaces row (a ∷ []) [] → string_bytes a ≡ codes "b" → place_need motor 1 ≡ Some true
  pub empty : NeedsPlaces row [] (a ∷ []) → string_bytes a ≡ codes "b" → place_need motor 1 ≡ Some false
  pub other : NeedsPlaces row (a ∷ []) [] → string_bytes a ≡ codes "b" → place_need motor 2 ≡ None
  pub two : NeedsPlaces row (a ∷ b ∷ []) [] → string_bytes a ≡ codes "b" → string_bytes b ≡ codes "j"
      → (place_need motor 1 ≡ Some true) × (place_need motor 9 ≡ Some true)
  pub twice : NeedsPlaces row (a ∷ []) (b ∷ []) → string_bytes a ≡ codes "b" → string_bytes b ≡ codes "b" → ⊥
  pub no_place : NeedsPlaces row (a ∷ []) [] → string_bytes a ≡ codes "x" → ⊥

pub record MotorsAreRead (row : MotorRow) (motor : Motor) (is : IsMotorOf lettered row motor) : Type 0 where
  pub machine : string_bytes row.machine ≡ codes "d" → motor.machine ≡ 3
  pub no_machine : string_bytes row.machine ≢ codes "x"
  pub zones : (a b : PostureRow) → ZonesAreNeeded row motor a b is
  pub places : (a b : String Global) → PlacesAreNeeded row motor a b is

pub record HazardsAreRead (row : HazardRow) (hazard : Hazard) (is : IsHazardOf letters row hazard) : Type 0 where
  pub first : string_bytes row.first ≡ codes "d" → hazard.first ≡ 3
  pub second : string_bytes row.second ≡ codes "f" → hazard.second ≡ 5
  pub no_first : string_bytes row.first ≢ codes "x"
  pub no_second : string_bytes row.second ≢ codes "x"

-- ---- plans

-- of a document with two motors and a hazard
pub record PlansHaveMotors (d : Document) (p : ProgrammedPlan) (is : IsPlanOf d p) (a b : MotorRow) (h : HazardRow)
    (motors : d.motors.items ≡ a ∷ b ∷ []) (hazards : d.hazards.items ≡ h ∷ []) : Type 0 where
  pub names : p.motors.names ≡ string_bytes a.name ∷ string_bytes b.name ∷ []
  pub titles : p.motors.hazard_names ≡ string_bytes h.name ∷ []
  pub motors_apart : AreApart p.motors.names
  pub motor_lost : (motor : Motor) → p.motors.motors.items ≢ motor ∷ []
  pub hazard_lost : p.motors.hazards.items ≢ []
  pub each : (first second : Motor) → p.motors.motors.items ≡ first ∷ second ∷ []
      → IsMotorOf p.named a first × IsMotorOf p.named b second
  pub hazard : (one : Hazard) → p.motors.hazards.items ≡ one ∷ [] → IsHazardOf p.motors.names h one
  pub no_name : p.motors.names ≢ codes "ram" ∷ codes "Arm" ∷ []
  pub no_title : p.motors.hazard_names ≢ codes "arm: crushed" ∷ []
  pub fit : AreMotorsOf p.named.plan p.motors.motors.items p.motors.hazards.items

-- ---- TOML

pub record MotorsAreIn (members : Members) (row : MotorRow) (is : IsMotorIn (table members) row) : Type 0 where
  pub name : get_member (codes "name") members ≡ Some (string (string_bytes row.name))
  pub machine : get_member (codes "machine") members ≡ Some (string (string_bytes row.machine))
  pub holds : ArePostures (get_member (codes "holds") members) row.holds.items
  pub stands : ArePostures (get_member (codes "stands") members) row.stands.items
  pub full : items_at (codes "full") members ≡ Some (map written row.full.items)
  pub empty : items_at (codes "empty") members ≡ Some (map written row.empty.items)

pub record HazardsAreIn (members : Members) (row : HazardRow) (is : IsHazardIn (table members) row) : Type 0 where
  pub name : get_member (codes "name") members ≡ Some (string (string_bytes row.name))
  pub motors : get_member (codes "motors") members
      ≡ Some (two_items (string (string_bytes row.first)) (string (string_bytes row.second)))

pub record RowsAreOfMotors : Type 0 where
  pub motors : (members : Members) (row : MotorRow) (is : IsMotorIn (table members) row) → MotorsAreIn members row is
  pub hazards : (members : Members) (row : HazardRow) (is : IsHazardIn (table members) row)
      → HazardsAreIn members row is
  pub no_motor : (text : Text) (row : MotorRow) → IsMotorIn (string text) row → ⊥
  pub no_hazard : (text : Text) (row : HazardRow) → IsHazardIn (string text) row → ⊥
  pub unknown : (value : Data) (members : Members) (row : MotorRow)
      → IsMotorIn (table (member (codes "motors") value members)) row → ⊥
  pub unknown_too : (value : Data) (members : Members) (row : HazardRow)
      → IsHazardIn (table (member (codes "holds") value members)) row → ⊥
  pub absent : (row : PostureRow) → ArePostures None (row ∷ []) → ⊥
  pub document : (members : Members) (d : Document) → IsDocumentIn members d
      → HasRows IsMotorIn (codes "motor") members d.motors.items
      × HasRows IsHazardIn (codes "hazard") members d.hazards.items

pub record MotorsAreMet : Type 0 where
  pub needs : NeedsAreMade
  pub motors : (row : MotorRow) (motor : Motor) (is : IsMotorOf lettered row motor) → MotorsAreRead row motor is
  pub hazards : (row : HazardRow) (hazard : Hazard) (is : IsHazardOf letters row hazard) → HazardsAreRead row hazard is
  pub plans : (d : Document) (p : ProgrammedPlan) (is : IsPlanOf d p) (a b : MotorRow) (h : HazardRow)
      (motors : d.motors.items ≡ a ∷ b ∷ []) (hazards : d.hazards.items ≡ h ∷ [])
      → PlansHaveMotors d p is a b h motors hazards
  pub rows : RowsAreOfMotors
