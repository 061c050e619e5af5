-- What the rows of motors and hazards say, by the names of a plan.
use Rattle.std.specs.Prelude.{◌≡◌, ℕ, ◌<◌, Bool, true, false, ◌&&◌, ◌||◌, not, nat_eq, List, codes, get_or, String}
use Rattle.std.specs.Prelude.{string_bytes, Option, Some, None, is_none, is_some, option_map, unwrap_or, IsTrue}
use Rattle.std.specs.Prelude.{if◌then◌else◌}
use Rattle.std.specs.declared.alloc.Global.{Global}
use Rattle.std.specs.List.{AllZip, list_all, list_any}
use Rattle.std.specs.Option.{option_eq}
use Rattle.std.specs.Str.{bytes_eq}
use Rattle.plan_types.specs.declared.posture.Posture.{Posture}
use Rattle.plan_motors.specs.declared.motor.Hazard.{Hazard}
use Rattle.plan_motors.specs.declared.motor.Motor.{Motor}
use Rattle.plan_motors.specs.declared.motor.ZoneNeed.{ZoneNeed}
use Rattle.plan_motors.specs.Motor.{no_need}
use Rattle.plan_motors.specs.OfPlan.{AreMotorsOf}
use Rattle.plan_text.specs.Answers.{posture_of}
use Rattle.plan_text.specs.Named.{Named}
use Rattle.plan_text.specs.Names.{Text, number_in}
use Rattle.plan_document.specs.declared.document.Document.{Document}
use Rattle.plan_document.specs.declared.document.HazardRow.{HazardRow}
use Rattle.plan_document.specs.declared.document.MotorRow.{MotorRow}
use Rattle.plan_document.specs.declared.motors.NamedMotors.{NamedMotors}
use Rattle.plan_document.specs.Names.{AreDistinct, AreNames, hazard_names, is_title, motor_names}
use Rattle.plan_document.specs.Postures.{given, gives_zone}

-- ---- zones

-- a zone that the machine holds, or one that stands in a posture, held or not
abbrev pub held : Option Posture → ZoneNeed
held posture = record { holds = true; posture = posture }

abbrev pub standing : Option Posture → ZoneNeed
standing posture = record { holds = false; posture = posture }

-- the word for a zone that is held, whatever its posture
abbrev pub is_any : Text → Bool
is_any word = bytes_eq word (codes "any")

-- what the word of a zone under `holds` means: that the zone is held in the posture, or in any
abbrev pub held_need : Text → Option ZoneNeed
held_need word =
    if is_any word then Some (held None) else option_map (λ posture. held (Some posture)) (posture_of word)

-- what a motor needs of a zone: what `holds` says of it, or else what `stands` does
abbrev pub need : Option ZoneNeed → Option Posture → ZoneNeed
need holds stands = unwrap_or holds (standing stands)

-- no zone is under both keys
abbrev pub is_under_one : Option ZoneNeed → Option Posture → Bool
is_under_one holds stands = is_none holds || is_none stands

pub record AreNeeds (zones : List Text) (row : MotorRow) (needs : List ZoneNeed) : Type 0 where
  pub holds_known : IsTrue (list_all (gives_zone held_need zones) row.holds.items)
  pub stands_known : IsTrue (list_all (gives_zone posture_of zones) row.stands.items)
  pub apart : (zone : ℕ) → zone < 10
      → IsTrue (is_under_one (given held_need zones row.holds.items zone)
      (given posture_of zones row.stands.items zone))
  pub each : (zone : ℕ) → zone < 10 → get_or needs zone no_need
      ≡ need (given held_need zones row.holds.items zone) (given posture_of zones row.stands.items zone)

-- ---- places

abbrev pub is_known : List Text → String Global → Bool
is_known places name = is_some (number_in places (string_bytes name))

abbrev pub is_named : List Text → ℕ → String Global → Bool
is_named places place name = option_eq nat_eq (number_in places (string_bytes name)) (Some place)

-- a place is one of those that are named
abbrev pub is_listed : List Text → List (String Global) → ℕ → Bool
is_listed places names place = list_any (is_named places place) names

pub record AreListed (places : List Text) (names : List (String Global)) (listed : List Bool) : Type 0 where
  pub known : IsTrue (list_all (is_known places) names)
  pub each : (place : ℕ) → place < 16 → get_or listed place false ≡ is_listed places names place

-- what a motor needs of a place: that it is full, if it is under `full`, that it is empty, if it is under `empty`
abbrev pub full_or_empty : Bool → Bool → Option Bool
full_or_empty true empty = Some true
full_or_empty false true = Some false
full_or_empty false false = None

pub record ArePlaceNeeds (places : List Text) (row : MotorRow) (needs : List (Option Bool)) : Type 0 where
  pub full_known : IsTrue (list_all (is_known places) row.full.items)
  pub empty_known : IsTrue (list_all (is_known places) row.empty.items)
  pub apart : (place : ℕ) → place < 16
      → IsTrue (not (is_listed places row.full.items place && is_listed places row.empty.items place))
  pub each : (place : ℕ) → place < 16 → get_or needs place None
      ≡ full_or_empty (is_listed places row.full.items place) (is_listed places row.empty.items place)

-- ---- motors and hazards

pub record IsMotorOf (n : Named) (row : MotorRow) (motor : Motor) : Type 0 where
  pub machine : number_in n.machines (string_bytes row.machine) ≡ Some motor.machine
  pub zones : AreNeeds n.zones row motor.zones
  pub places : ArePlaceNeeds n.places row motor.places

pub record IsHazardOf (motors : List Text) (row : HazardRow) (hazard : Hazard) : Type 0 where
  pub first : number_in motors (string_bytes row.first) ≡ Some hazard.first
  pub second : number_in motors (string_bytes row.second) ≡ Some hazard.second

-- each table has a row for each row of the document, in which names are looked up, and the rows fit the plan; motors
-- have names, and hazards titles, which are told apart
pub record AreNamedMotorsOf (d : Document) (n : Named) (m : NamedMotors) : Type 0 where
  pub spelled_motors : AreNames m.names
  pub spelled_hazards : IsTrue (list_all is_title m.hazard_names)
  pub distinct_motors : AreDistinct m.names
  pub distinct_hazards : AreDistinct m.hazard_names
  pub named_motors : m.names ≡ motor_names d.motors.items
  pub named_hazards : m.hazard_names ≡ hazard_names d.hazards.items
  pub motors : AllZip (IsMotorOf n) d.motors.items m.motors.items
  pub hazards : AllZip (IsHazardOf m.names) d.hazards.items m.hazards.items
  pub fit : AreMotorsOf n.plan m.motors.items m.hazards.items
