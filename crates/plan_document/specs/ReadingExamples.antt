-- Of which TOML the rows of a document are read, in examples: what each key must have, and what no row may lack.
use Rattle.std.specs.Prelude.{◌≡◌, Bool, true, false, List, [], ◌∷◌, codes, map, String, string_bytes, ℕ, suc, Some, None}
use Rattle.std.specs.declared.alloc.Global.{Global}
use Rattle.toml.specs.Data.{Data, Members, array, boolean, get_member, item, member, no_items, no_members, string}
use Rattle.toml.specs.Data.{table}
use Rattle.toml.specs.Parse.{parse_document}
use Rattle.plan_text.specs.Names.{Text}
use Rattle.plan_document.specs.declared.document.Document.{Document}
use Rattle.plan_document.specs.declared.document.MachineRow.{MachineRow}
use Rattle.plan_document.specs.declared.document.PoseRow.{PoseRow}
use Rattle.plan_document.specs.declared.document.PostureRow.{PostureRow}
use Rattle.plan_document.specs.declared.document.WayRow.{WayRow}
use Rattle.plan_document.specs.declared.document.ZoneRow.{ZoneRow}
use Rattle.plan_document.specs.declared.resolving.ProgrammedPlan.{ProgrammedPlan}
use Rattle.plan_document.specs.Reading.{AreSidesIn, HasRows, HasZones, IsDocumentIn, IsMachineIn, IsPlain, IsPlainIn}
use Rattle.plan_document.specs.Reading.{IsPlanIn, IsPoseIn, IsSide, IsTruth}
use Rattle.plan_document.specs.Reading.{IsWay, IsZoneIn, gives_written, items_at, items_in, written}
use Rattle.plan_document.specs.Saying.{IsPlanOf}

abbrev pub two_items : Data → Data → Data
two_items a b = array (item a (item b no_items))

abbrev pub three_items : Data → Data → Data → Data
three_items a b c = array (item a (item b (item c no_items)))

pub record ValuesAreRead : Type 0 where
  pub absent : items_in None ≡ Some []
  pub no_list : items_in (Some (string [])) ≡ None
  pub items : items_in (Some (two_items (boolean true) (string []))) ≡ Some (boolean true ∷ string [] ∷ [])
  -- what a pose has after moving is no by itself, and yes only if the document says so
  pub no_truth : IsTruth None true → ⊥
  pub truth : (truth : Bool) → IsTruth (Some (boolean true)) truth → truth ≡ true
  pub text_truth : (truth : Bool) → IsTruth (Some (string (codes "true"))) truth → ⊥
  pub way : (row : WayRow) (a b : Text) → IsWay (Some (two_items (string a) (string b))) (Some row)
      → (string_bytes row.from ≡ a) × (string_bytes row.to ≡ b)
  pub third : (row : WayRow) (a b c : Data) → IsWay (Some (three_items a b c)) (Some row) → ⊥
  pub way_lost : (value : Data) → IsWay (Some value) None → ⊥
  pub way_added : (row : WayRow) → IsWay None (Some row) → ⊥
  pub gives : (a b : PostureRow) → gives_written (a ∷ b ∷ [])
      ≡ member (string_bytes a.zone) (string (string_bytes a.posture))
      (member (string_bytes b.zone) (string (string_bytes b.posture)) no_members)
  -- a row of a list, none more and none less
  pub row_lost : (members : Members) (value : Data)
      → items_at (codes "machine") members ≡ Some (value ∷ []) → HasRows IsMachineIn (codes "machine") members [] → ⊥
  pub row_added : (members : Members) (row : MachineRow)
      → items_at (codes "machine") members ≡ Some [] → HasRows IsMachineIn (codes "machine") members (row ∷ []) → ⊥
  pub row : (members : Members) (value : Data) (row : MachineRow)
      → items_at (codes "machine") members ≡ Some (value ∷ [])
      → HasRows IsMachineIn (codes "machine") members (row ∷ []) → IsMachineIn value row

pub record PosesAreIn (members : Members) (row : PoseRow) : Type 0 where
  pub name : IsPoseIn (table members) row → get_member (codes "name") members ≡ Some (string (string_bytes row.name))
  pub gives : IsPoseIn (table members) row
      → get_member (codes "gives") members ≡ Some (table (gives_written row.gives.items))
  pub after_moving : IsPoseIn (table members) row → IsTruth (get_member (codes "after_moving") members) row.after_moving
  pub no_table : (text : Text) → IsPoseIn (string text) row → ⊥
  pub unknown : (value : Data) → IsPoseIn (table (member (codes "places") value members)) row → ⊥

pub record MachinesAreIn (members : Members) (row : MachineRow) : Type 0 where
  pub name : IsMachineIn (table members) row → get_member (codes "name") members ≡ Some (string (string_bytes row.name))
  pub places : IsMachineIn (table members) row
      → items_at (codes "places") members ≡ Some (map written row.places.items)
  pub sources : IsMachineIn (table members) row
      → items_at (codes "sources") members ≡ Some (map written row.sources.items)
  pub sinks : IsMachineIn (table members) row
      → items_at (codes "sinks") members ≡ Some (map written row.sinks.items)
  pub poses : IsMachineIn (table members) row → HasRows IsPoseIn (codes "poses") members row.poses.items
  pub sensors : IsMachineIn (table members) row
      → items_at (codes "sensors") members ≡ Some (map written row.sensors.items)
  pub program : IsMachineIn (table members) row
      → items_at (codes "program") members ≡ Some (map written row.program.items)
  pub no_table : (text : Text) → IsMachineIn (string text) row → ⊥
  pub unknown : (value : Data) → IsMachineIn (table (member (codes "host") value members)) row → ⊥

-- a zone of one guest, and the guests that another one lists
pub record ZonesAreIn (zone : Members) (row : ZoneRow) : Type 0 where
  pub name : IsPlain zone row → get_member (codes "name") zone ≡ Some (string (string_bytes row.name))
  pub host : IsPlain zone row → get_member (codes "host") zone ≡ Some (string (string_bytes row.host))
  pub guest : IsPlain zone row → get_member (codes "guest") zone ≡ Some (string (string_bytes row.guest))
  pub inward : IsPlain zone row → IsWay (get_member (codes "inward") zone) row.inward
  pub outward : IsPlain zone row → IsWay (get_member (codes "outward") zone) row.outward
  pub alone : IsPlain zone row → (row.space ≡ None) × (row.joins ≡ false)
  pub unknown : (value : Data) → IsPlain (member (codes "gives") value zone) row → ⊥
  pub no_list : (value : Data) → IsPlain (member (codes "guests") value zone) row → ⊥

pub record SidesAreIn (zone members : Members) (k : ℕ) (row : ZoneRow) : Type 0 where
  pub name : IsSide zone (k, table members) row
      → get_member (codes "name") members ≡ Some (string (string_bytes row.name))
  pub guest : IsSide zone (k, table members) row
      → get_member (codes "guest") members ≡ Some (string (string_bytes row.guest))
  pub inward : IsSide zone (k, table members) row → IsWay (get_member (codes "inward") members) row.inward
  pub outward : IsSide zone (k, table members) row → IsWay (get_member (codes "outward") members) row.outward
  pub host : IsSide zone (k, table members) row
      → get_member (codes "host") zone ≡ Some (string (string_bytes row.host))
  pub space : (space : String Global) → IsSide zone (k, table members) row → row.space ≡ Some space
      → get_member (codes "name") zone ≡ Some (string (string_bytes space))
  pub no_space : IsSide zone (k, table members) row → row.space ≡ None → ⊥
  pub first : IsSide zone (0, table members) row → row.joins ≡ false
  pub later : IsSide zone (suc k, table members) row → row.joins ≡ true
  pub no_table : (text : Text) → IsSide zone (k, string text) row → ⊥
  pub unknown : (value : Data) → IsSide zone (k, table (member (codes "host") value members)) row → ⊥

pub record SpacesAreIn (zone : Members) (a b : Data) (x y : ZoneRow) (rows : List ZoneRow) : Type 0 where
  pub plain : get_member (codes "guests") zone ≡ None → IsZoneIn (table zone) rows → IsPlainIn zone rows
  pub listed : get_member (codes "guests") zone ≡ Some a → IsZoneIn (table zone) rows → AreSidesIn zone rows
  pub no_table : (text : Text) → IsZoneIn (string text) rows → ⊥
  pub guest_beside : AreSidesIn (member (codes "guest") a zone) rows → ⊥
  pub none : items_at (codes "guests") zone ≡ Some [] → AreSidesIn zone rows → ⊥
  pub two : items_at (codes "guests") zone ≡ Some (a ∷ b ∷ []) → AreSidesIn zone (x ∷ y ∷ [])
      → IsSide zone (0, a) x × IsSide zone (1, b) y
  pub lost : items_at (codes "guests") zone ≡ Some (a ∷ b ∷ []) → AreSidesIn zone (x ∷ []) → ⊥

pub record DocumentsAreIn (members : Members) (d : Document) : Type 0 where
  pub machines : IsDocumentIn members d → HasRows IsMachineIn (codes "machine") members d.machines.items
  pub zones : IsDocumentIn members d → HasZones members d.zones.items
  pub unknown : (value : Data) → IsDocumentIn (member (codes "name") value members) d → ⊥

pub record PlansAreIn (bytes : List ℕ) (plan : ProgrammedPlan) : Type 0 where
  pub no_toml : IsPlanIn bytes plan → parse_document bytes ≡ None → ⊥
  pub toml : (members : Members) → IsPlanIn bytes plan → parse_document bytes ≡ Some members
      → (d : Document) × IsDocumentIn members d × IsPlanOf d plan

pub record RowsAreRead : Type 0 where
  pub values : ValuesAreRead
  pub poses : (members : Members) (row : PoseRow) → PosesAreIn members row
  pub machines : (members : Members) (row : MachineRow) → MachinesAreIn members row
  pub zones : (zone : Members) (row : ZoneRow) → ZonesAreIn zone row
  pub sides : (zone members : Members) (k : ℕ) (row : ZoneRow) → SidesAreIn zone members k row
  pub spaces : (zone : Members) (a b : Data) (x y : ZoneRow) (rows : List ZoneRow) → SpacesAreIn zone a b x y rows
  pub documents : (members : Members) (d : Document) → DocumentsAreIn members d
  pub plans : (bytes : List ℕ) (plan : ProgrammedPlan) → PlansAreIn bytes plan
