-- The rows of a document in its TOML.
use Rattle.std.specs.Prelude.{◌≡◌, ◌≢◌, ℕ, Bool, false, not, nat_eq, List, [], ◌∷◌, ◌++◌, codes, map}
use Rattle.std.specs.Prelude.{String, string_bytes, Option, Some, None, option_map, IsTrue, ⊤}
use Rattle.std.specs.declared.alloc.Global.{Global}
use Rattle.std.specs.List.{AllZip, enumerate_from, flat_map}
use Rattle.toml.specs.Data.{Data, Items, Members, array, boolean, item, no_items, member, no_members, string, table}
use Rattle.toml.specs.Data.{as_array, get_member}
use Rattle.toml.specs.Parse.{parse_document}
use Rattle.plan_text.specs.Names.{Text}
use Rattle.plan_document.specs.declared.document.Document.{Document}
use Rattle.plan_document.specs.declared.document.HazardRow.{HazardRow}
use Rattle.plan_document.specs.declared.document.MachineRow.{MachineRow}
use Rattle.plan_document.specs.declared.document.MotorRow.{MotorRow}
use Rattle.plan_document.specs.declared.document.PoseRow.{PoseRow}
use Rattle.plan_document.specs.declared.document.PostureRow.{PostureRow}
use Rattle.plan_document.specs.declared.document.WayRow.{WayRow}
use Rattle.plan_document.specs.declared.document.ZoneRow.{ZoneRow}
use Rattle.plan_document.specs.declared.resolving.ProgrammedPlan.{ProgrammedPlan}
use Rattle.plan_document.specs.Keys.{hazard_keys, has_only, machine_keys, motor_keys, pose_keys, side_keys, space_keys}
use Rattle.plan_document.specs.Keys.{top_keys, zone_keys}
use Rattle.plan_document.specs.Saying.{IsPlanOf}

-- a text, as TOML has it
abbrev pub written : String Global → Data
written text = string (string_bytes text)

-- ---- values at keys

abbrev pub list_of : Items → List Data
list_of no_items = []
list_of (item value items) = value ∷ list_of items

-- the items of a list; none where the key is absent
abbrev pub items_in : Option Data → Option (List Data)
items_in None = Some []
items_in (Some value) = option_map list_of (as_array value)

abbrev pub items_at : Text → Members → Option (List Data)
items_at key members = items_in (get_member key members)

abbrev pub HasText : Text → Members → String Global → Type 0
HasText key members text = get_member key members ≡ Some (written text)

abbrev pub HasTexts : Text → Members → List (String Global) → Type 0
HasTexts key members texts = items_at key members ≡ Some (map written texts)

-- the items in the list of a key are rows, one by one
abbrev pub HasRows : {Row : Type 0} → (Data → Row → Type 0) → Text → Members → List Row → Type 0
HasRows IsRow key members rows = (items : List Data) × (items_at key members ≡ Some items) × AllZip IsRow items rows

-- false where the key is absent
abbrev pub IsTruth : Option Data → Bool → Type 0
IsTruth None truth = truth ≡ false
IsTruth (Some value) truth = value ≡ boolean truth

-- a list of two texts
abbrev pub pair : String Global → String Global → Data
pair first second = array (item (written first) (item (written second) no_items))

-- two places
abbrev pub IsWay : Option Data → Option WayRow → Type 0
IsWay None None = ⊤
IsWay None (Some row) = ⊥
IsWay (Some value) None = ⊥
IsWay (Some value) (Some row) = value ≡ pair row.from row.to

-- a table from zones to postures
abbrev pub gives_written : List PostureRow → Members
gives_written [] = no_members
gives_written (row ∷ rows) = member (string_bytes row.zone) (written row.posture) (gives_written rows)

-- no rows where the key is absent
abbrev pub ArePostures : Option Data → List PostureRow → Type 0
ArePostures None rows = rows ≡ []
ArePostures (Some value) rows = value ≡ table (gives_written rows)

-- ---- rows

pub record IsPoseIn (value : Data) (row : PoseRow) : Type 0 where
  pub members : Members
  pub is_table : value ≡ table members
  pub keys : IsTrue (has_only pose_keys members)
  pub name : HasText (codes "name") members row.name
  pub gives : get_member (codes "gives") members ≡ Some (table (gives_written row.gives.items))
  pub after_moving : IsTruth (get_member (codes "after_moving") members) row.after_moving

pub record IsMachineIn (value : Data) (row : MachineRow) : Type 0 where
  pub members : Members
  pub is_table : value ≡ table members
  pub keys : IsTrue (has_only machine_keys members)
  pub name : HasText (codes "name") members row.name
  pub places : HasTexts (codes "places") members row.places.items
  pub sources : HasTexts (codes "sources") members row.sources.items
  pub sinks : HasTexts (codes "sinks") members row.sinks.items
  pub poses : HasRows IsPoseIn (codes "poses") members row.poses.items
  pub sensors : HasTexts (codes "sensors") members row.sensors.items
  pub program : HasTexts (codes "program") members row.program.items

pub record IsMotorIn (value : Data) (row : MotorRow) : Type 0 where
  pub members : Members
  pub is_table : value ≡ table members
  pub keys : IsTrue (has_only motor_keys members)
  pub name : HasText (codes "name") members row.name
  pub machine : HasText (codes "machine") members row.machine
  pub holds : ArePostures (get_member (codes "holds") members) row.holds.items
  pub stands : ArePostures (get_member (codes "stands") members) row.stands.items
  pub full : HasTexts (codes "full") members row.full.items
  pub empty : HasTexts (codes "empty") members row.empty.items

pub record IsHazardIn (value : Data) (row : HazardRow) : Type 0 where
  pub members : Members
  pub is_table : value ≡ table members
  pub keys : IsTrue (has_only hazard_keys members)
  pub name : HasText (codes "name") members row.name
  pub motors : get_member (codes "motors") members ≡ Some (pair row.first row.second)

-- ---- zones

-- a zone of one guest
pub record IsPlain (zone : Members) (row : ZoneRow) : Type 0 where
  pub keys : IsTrue (has_only zone_keys zone)
  pub name : HasText (codes "name") zone row.name
  pub host : HasText (codes "host") zone row.host
  pub guest : HasText (codes "guest") zone row.guest
  pub inward : IsWay (get_member (codes "inward") zone) row.inward
  pub outward : IsWay (get_member (codes "outward") zone) row.outward
  pub space : row.space ≡ None
  pub joins : row.joins ≡ false

-- has one row
abbrev pub IsPlainIn : Members → List ZoneRow → Type 0
IsPlainIn zone rows = (row : ZoneRow) × (rows ≡ row ∷ []) × IsPlain zone row

-- a zone that lists its guests gives each its name as that of the space
abbrev pub HasSpace : Members → Option (String Global) → Type 0
HasSpace zone None = ⊥
HasSpace zone (Some name) = HasText (codes "name") zone name

-- a guest in the list, by its number there: it has a name, a guest and ways of its own, and the zone's host; each but
-- the first is of one space with the one before it
pub record IsSide (zone : Members) (side : ℕ × Data) (row : ZoneRow) : Type 0 where
  pub members : Members
  pub is_table : side.1 ≡ table members
  pub keys : IsTrue (has_only side_keys members)
  pub name : HasText (codes "name") members row.name
  pub guest : HasText (codes "guest") members row.guest
  pub inward : IsWay (get_member (codes "inward") members) row.inward
  pub outward : IsWay (get_member (codes "outward") members) row.outward
  pub host : HasText (codes "host") zone row.host
  pub space : HasSpace zone row.space
  pub joins : row.joins ≡ not (nat_eq side.0 0)

abbrev pub AreSides : Members → List Data → List ZoneRow → Type 0
AreSides zone items rows = AllZip (IsSide zone) (enumerate_from 0 items) rows

pub record ListsGuests (zone : Members) (items : List Data) : Type 0 where
  pub listed : items_at (codes "guests") zone ≡ Some items
  pub some : items ≢ []

-- has a row for each
pub record AreSidesIn (zone : Members) (rows : List ZoneRow) : Type 0 where
  pub keys : IsTrue (has_only space_keys zone)
  pub items : List Data
  pub guests : ListsGuests zone items
  pub sides : AreSides zone items rows

abbrev pub AreRowsBy : Option Data → Members → List ZoneRow → Type 0
AreRowsBy None zone rows = IsPlainIn zone rows
AreRowsBy (Some guests) zone rows = AreSidesIn zone rows

-- the rows of a zone
pub record IsZoneIn (value : Data) (rows : List ZoneRow) : Type 0 where
  pub zone : Members
  pub is_table : value ≡ table zone
  pub rows_are : AreRowsBy (get_member (codes "guests") zone) zone rows

-- the rows of zones, one zone after another
pub record AreZonesIn (items : List Data) (rows : List ZoneRow) : Type 0 where
  pub zones : List (List ZoneRow)
  pub each : AllZip IsZoneIn items zones
  pub all : rows ≡ flat_map (λ zone. zone) zones

pub record HasZones (members : Members) (rows : List ZoneRow) : Type 0 where
  pub items : List Data
  pub listed : items_at (codes "zone") members ≡ Some items
  pub zones : AreZonesIn items rows

-- these rows come after those that were there
pub record AreAdded (Are : List ZoneRow → Type 0) (old new : List ZoneRow) : Type 0 where
  pub added : List ZoneRow
  pub are : Are added
  pub all : new ≡ old ++ added

-- ---- documents

pub record IsDocumentIn (members : Members) (d : Document) : Type 0 where
  pub keys : IsTrue (has_only top_keys members)
  pub machines : HasRows IsMachineIn (codes "machine") members d.machines.items
  pub zones : HasZones members d.zones.items
  pub motors : HasRows IsMotorIn (codes "motor") members d.motors.items
  pub hazards : HasRows IsHazardIn (codes "hazard") members d.hazards.items

-- the plan that the rows in a table say
pub record IsPlanOfTable (members : Members) (plan : ProgrammedPlan) : Type 0 where
  pub document : Document
  pub rows : IsDocumentIn members document
  pub says : IsPlanOf document plan

-- the plan that these bytes say: they are TOML, and the plan is that of the rows in it
pub record IsPlanIn (bytes : List ℕ) (plan : ProgrammedPlan) : Type 0 where
  pub members : Members
  pub is_toml : parse_document bytes ≡ Some members
  pub says : IsPlanOfTable members plan
