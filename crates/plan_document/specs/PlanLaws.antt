-- Laws of what plans say of their documents: each row of a document, wherever it stands, has its names in the plan.
use Rattle.std.specs.Prelude.{◌≡◌, ◌≢◌, ℕ, ◌<◌, ◌+◌, ◌⊎◌, true, false, List, ◌∷◌, ◌++◌, codes, length}
use Rattle.std.specs.Prelude.{String, string_bytes, Some, None, is_some, IsTrue}
use Rattle.std.specs.declared.alloc.Global.{Global}
use Rattle.plan_types.specs.declared.posture.Posture.{Posture}
use Rattle.plan_types.specs.declared.table.Way.{Way}
use Rattle.plan_types.specs.Table.{guest_of, host_of, joins, machine_of, place_row, pose_row, posture_of, zone_row}
use Rattle.plan_motors.specs.declared.motor.Hazard.{Hazard}
use Rattle.plan_motors.specs.declared.motor.Motor.{Motor}
use Rattle.plan_motors.specs.Motor.{need_of, place_need}
use Rattle.plan_text.specs.Answers as answers
use Rattle.plan_text.specs.Named.{Named}
use Rattle.plan_text.specs.Names.{Text, name_in, number_in}
use Rattle.plan_document.specs.declared.document.Document.{Document}
use Rattle.plan_document.specs.declared.document.HazardRow.{HazardRow}
use Rattle.plan_document.specs.declared.document.MachineRow.{MachineRow}
use Rattle.plan_document.specs.declared.document.MotorRow.{MotorRow}
use Rattle.plan_document.specs.declared.document.PoseRow.{PoseRow}
use Rattle.plan_document.specs.declared.document.PostureRow.{PostureRow}
use Rattle.plan_document.specs.declared.document.WayRow.{WayRow}
use Rattle.plan_document.specs.declared.document.ZoneRow.{ZoneRow}
use Rattle.plan_document.specs.declared.resolving.ProgrammedPlan.{ProgrammedPlan}
use Rattle.plan_document.specs.Names.{pose_names, space_name}
use Rattle.plan_document.specs.Saying.{IsNamedPlanOf, IsPlanOf, place_of}

-- a list has an item with a number, from 0
pub record StandsAt {A : Type 0} (items : List A) (number : ℕ) (one : A) : Type 0 where
  pub before : List A
  pub after : List A
  pub is : items ≡ before ++ one ∷ after
  pub count : length before ≡ number

-- ---- places

-- a place that the row of a machine names has that machine as its keeper, and is a source, or a sink, if the row lists
-- it as one
abbrev pub PlacesAreKept : Type 0
PlacesAreKept =
    (d : Document) (n : Named) → IsNamedPlanOf d n → (machine : ℕ) (row : MachineRow)
    → StandsAt d.machines.items machine row → (nth : ℕ) (name : String Global) → StandsAt row.places.items nth name
    → (place : ℕ) → number_in n.places (string_bytes name) ≡ Some place
    → place_row n.plan place ≡ place_of machine row (string_bytes name)

-- ---- zones

-- a way leads from the place of the one name to that of the other
pub record WayHasNames (places : List Text) (row : WayRow) (way : Way) : Type 0 where
  pub from : name_in places way.from ≡ string_bytes row.from
  pub to : name_in places way.to ≡ string_bytes row.to

pub record ZoneHasNames (n : Named) (zone : ℕ) (row : ZoneRow) : Type 0 where
  pub name : name_in n.zones zone ≡ string_bytes row.name
  pub space : name_in n.spaces zone ≡ space_name row
  pub joins : joins n.plan zone ≡ row.joins
  pub host : name_in n.machines (host_of n.plan zone) ≡ string_bytes row.host
  pub guest : name_in n.machines (guest_of n.plan zone) ≡ string_bytes row.guest
  pub inward : (from_row : WayRow) (way : Way) → row.inward ≡ Some from_row
      → (zone_row n.plan zone).inward ≡ Some way → WayHasNames n.places from_row way
  pub outward : (from_row : WayRow) (way : Way) → row.outward ≡ Some from_row
      → (zone_row n.plan zone).outward ≡ Some way → WayHasNames n.places from_row way
  pub no_inward : row.inward ≡ None → (zone_row n.plan zone).inward ≡ None
  pub no_outward : row.outward ≡ None → (zone_row n.plan zone).outward ≡ None
  pub an_inward : (zone_row n.plan zone).inward ≡ None → row.inward ≡ None
  pub an_outward : (zone_row n.plan zone).outward ≡ None → row.outward ≡ None

-- each row of a zone, of any document, is that of the zone with its number
abbrev pub ZonesHaveNames : Type 0
ZonesHaveNames =
    (d : Document) (n : Named) → IsNamedPlanOf d n → (zone : ℕ) (row : ZoneRow) → StandsAt d.zones.items zone row
    → ZoneHasNames n zone row

-- ---- poses

-- a row is about a zone
abbrev pub IsOfZone : Named → ℕ → PostureRow → Type 0
IsOfZone n zone row = number_in n.zones (string_bytes row.zone) ≡ Some zone

-- none of these rows is about a zone
abbrev pub AreOfOthers : Named → ℕ → List PostureRow → Type 0
AreOfOthers n zone rows = (number : ℕ) (row : PostureRow) → StandsAt rows number row → IsOfZone n zone row → ⊥

-- a row is the last of these about a zone, wherever it stands
pub record IsLast (n : Named) (rows : List PostureRow) (zone : ℕ) (row : PostureRow) : Type 0 where
  pub before : List PostureRow
  pub after : List PostureRow
  pub is : rows ≡ before ++ row ∷ after
  pub about : IsOfZone n zone row
  pub others : AreOfOthers n zone after

-- a row has the name of a zone
abbrev pub HasZoneName : Named → PostureRow → Type 0
HasZoneName n row = IsTrue (is_some (number_in n.zones (string_bytes row.zone)))

abbrev pub HasPostureWord : PostureRow → Type 0
HasPostureWord row = IsTrue (is_some (answers.posture_of (string_bytes row.posture)))

pub record PoseHasName (n : Named) (pose owner : ℕ) (row : PoseRow) : Type 0 where
  pub name : name_in n.poses pose ≡ string_bytes row.name
  pub machine : machine_of n.plan pose ≡ owner
  pub after_moving : (pose_row n.plan pose).after_moving ≡ row.after_moving
  -- up to the last of ten zones
  pub gives : (zone : ℕ) (one : PostureRow) (posture : Posture) → zone < 10 → IsLast n row.gives.items zone one
      → answers.posture_of (string_bytes one.posture) ≡ Some posture → posture_of n.plan pose zone ≡ Some posture
  pub gives_none : (zone : ℕ) → zone < 10 → AreOfOthers n zone row.gives.items → posture_of n.plan pose zone ≡ None
  pub known : (number : ℕ) (one : PostureRow) → StandsAt row.gives.items number one
      → HasZoneName n one × HasPostureWord one

-- a machine's poses come after those of the machines before it
abbrev pub PosesHaveNames : Type 0
PosesHaveNames =
    (d : Document) (n : Named) → IsNamedPlanOf d n → (machine : ℕ) (row : MachineRow)
    → (here : StandsAt d.machines.items machine row) → (nth : ℕ) (pose : PoseRow) → StandsAt row.poses.items nth pose
    → PoseHasName n (length (pose_names here.before) + nth) machine pose

-- ---- motors and hazards

abbrev pub HasPlaceName : Named → String Global → Type 0
HasPlaceName n name = IsTrue (is_some (number_in n.places (string_bytes name)))

-- none of these names is that of a place
abbrev pub AreOfOtherPlaces : Named → ℕ → List (String Global) → Type 0
AreOfOtherPlaces n place names =
    (number : ℕ) (name : String Global) → StandsAt names number name
    → number_in n.places (string_bytes name) ≢ Some place

pub record MotorHasNeeds (n : Named) (row : MotorRow) (motor : Motor) : Type 0 where
  pub machine : name_in n.machines motor.machine ≡ string_bytes row.machine
  -- up to the last of ten zones
  pub holds : (zone : ℕ) (one : PostureRow) (posture : Posture) → zone < 10 → IsLast n row.holds.items zone one
      → answers.posture_of (string_bytes one.posture) ≡ Some posture
      → need_of motor zone ≡ record { holds = true; posture = Some posture }
  pub holds_any : (zone : ℕ) (one : PostureRow) → zone < 10 → IsLast n row.holds.items zone one
      → string_bytes one.posture ≡ codes "any" → need_of motor zone ≡ record { holds = true; posture = None }
  pub stands : (zone : ℕ) (one : PostureRow) (posture : Posture) → zone < 10 → IsLast n row.stands.items zone one
      → answers.posture_of (string_bytes one.posture) ≡ Some posture
      → need_of motor zone ≡ record { holds = false; posture = Some posture }
  -- up to the last of sixteen places
  pub full : (place nth : ℕ) (name : String Global) → place < 16 → StandsAt row.full.items nth name
      → number_in n.places (string_bytes name) ≡ Some place → place_need motor place ≡ Some true
  pub empty : (place nth : ℕ) (name : String Global) → place < 16 → StandsAt row.empty.items nth name
      → number_in n.places (string_bytes name) ≡ Some place → place_need motor place ≡ Some false
  -- what no row names isn't needed, and nothing is named under two keys
  pub no_zone : (zone : ℕ) → zone < 10 → AreOfOthers n zone row.holds.items → AreOfOthers n zone row.stands.items
      → need_of motor zone ≡ record { holds = false; posture = None }
  pub no_place : (place : ℕ) → place < 16 → AreOfOtherPlaces n place row.full.items
      → AreOfOtherPlaces n place row.empty.items → place_need motor place ≡ None
  pub zone_once : (zone i j : ℕ) (a b : PostureRow) → zone < 10 → StandsAt row.holds.items i a → IsOfZone n zone a
      → StandsAt row.stands.items j b → IsOfZone n zone b → ⊥
  pub place_once : (place i j : ℕ) (a b : String Global) → place < 16 → StandsAt row.full.items i a
      → number_in n.places (string_bytes a) ≡ Some place → StandsAt row.empty.items j b
      → number_in n.places (string_bytes b) ≡ Some place → ⊥
  pub known_holds : (number : ℕ) (one : PostureRow) → StandsAt row.holds.items number one
      → HasZoneName n one × ((string_bytes one.posture ≡ codes "any") ⊎ HasPostureWord one)
  pub known_stands : (number : ℕ) (one : PostureRow) → StandsAt row.stands.items number one
      → HasZoneName n one × HasPostureWord one
  pub known_full : (number : ℕ) (name : String Global) → StandsAt row.full.items number name → HasPlaceName n name
  pub known_empty : (number : ℕ) (name : String Global) → StandsAt row.empty.items number name → HasPlaceName n name

abbrev pub MotorsHaveNeeds : Type 0
MotorsHaveNeeds =
    (d : Document) (p : ProgrammedPlan) → IsPlanOf d p → (number : ℕ) (row : MotorRow) (motor : Motor)
    → StandsAt d.motors.items number row → StandsAt p.motors.motors.items number motor
    → MotorHasNeeds p.named row motor

-- a hazard is of the motors that its row names
pub record HazardHasNames (motors : List Text) (row : HazardRow) (hazard : Hazard) : Type 0 where
  pub first : name_in motors hazard.first ≡ string_bytes row.first
  pub second : name_in motors hazard.second ≡ string_bytes row.second

abbrev pub HazardsHaveNames : Type 0
HazardsHaveNames =
    (d : Document) (p : ProgrammedPlan) → IsPlanOf d p → (number : ℕ) (row : HazardRow) (hazard : Hazard)
    → StandsAt d.hazards.items number row → StandsAt p.motors.hazards.items number hazard
    → HazardHasNames p.motors.names row hazard
