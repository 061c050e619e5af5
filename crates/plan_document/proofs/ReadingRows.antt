-- Of which TOML the rows of a document are read, in examples.
use Rattle.std.proofs.Common.{◌≡◌, ◌∙◌, ℕ, suc, Bool, true, false, not, nat_eq, List, [], ◌∷◌, codes, Some, None, refl, sym, ap, subst, arith, string_bytes}
use Rattle.std.proofs.lemmas.Bool.{eqb-true, false_from_ne_true}
use Rattle.std.specs.List.{AllZip}
use Rattle.toml.specs.Data.{Data, Members, array, boolean, get_member, item, member, no_items, string, table}
use Rattle.toml.specs.Parse.{parse_document}
use Rattle.plan_text.specs.Names.{Text}
use Rattle.plan_document.specs.declared.document.Document.{Document}
use Rattle.plan_document.specs.declared.document.MachineRow.{MachineRow}
use Rattle.plan_document.specs.declared.document.PoseRow.{PoseRow}
use Rattle.plan_document.specs.declared.document.WayRow.{WayRow}
use Rattle.plan_document.specs.declared.document.ZoneRow.{ZoneRow}
use Rattle.plan_document.specs.declared.resolving.ProgrammedPlan.{ProgrammedPlan}
use Rattle.plan_document.specs.Keys.{has_only, machine_keys, pose_keys, side_keys}
use Rattle.plan_document.specs.Reading.{AreRowsBy, AreSides, AreSidesIn, HasRows, HasSpace, IsDocumentIn, IsMachineIn, IsPlanIn, IsPlanOfTable, IsPoseIn, IsTruth, IsWay, IsZoneIn, items_at}
use Rattle.plan_document.specs.ReadingExamples.{DocumentsAreIn, MachinesAreIn, PlansAreIn, PosesAreIn, RowsAreRead, SidesAreIn, SpacesAreIn, ValuesAreRead, ZonesAreIn, three_items, two_items}
use Rattle.plan_document.specs.Saying.{IsPlanOf}

impossible : false ≡ true → ⊥
impossible e = cc

-- ---- values

is_truth : (truth : Bool) → IsTruth (Some (boolean true)) truth → truth ≡ true
is_truth truth is = cc

is_no_truth : (truth : Bool) → IsTruth (Some (string (codes "true"))) truth → ⊥
is_no_truth truth is = cc

ways : (row : WayRow) (a b : Text) → IsWay (Some (two_items (string a) (string b))) (Some row) → (string_bytes row.from ≡ a) × (string_bytes row.to ≡ b)
ways row a b is =
    let e : array (item (string a) (item (string b) no_items)) ≡ array (item (string (string_bytes row.from)) (item (string (string_bytes row.to)) no_items)) = is in
    (cc, cc)

no_third : (row : WayRow) (a b c : Data) → IsWay (Some (three_items a b c)) (Some row) → ⊥
no_third row a b c is =
    let e : array (item a (item b (item c no_items))) ≡ array (item (string (string_bytes row.from)) (item (string (string_bytes row.to)) no_items)) = is in
    cc

-- the items of a list are the rows, one by one
zipped : (ms : Members) (items : List Data) (rows : List MachineRow) → items_at (codes "machine") ms ≡ Some items → HasRows IsMachineIn (codes "machine") ms rows → AllZip IsMachineIn items rows
zipped ms items rows there has =
    let e : Some has.0 ≡ Some items = sym has.1 ∙ there in
    let same : has.0 ≡ items = cc in
    subst (λ values. AllZip IsMachineIn values rows) same has.2

values_read : ValuesAreRead
values_read = record {
  absent = refl;
  no_list = refl;
  items = refl;
  no_truth = λ e. cc;
  truth = is_truth;
  text_truth = is_no_truth;
  way = ways;
  third = no_third;
  way_lost = λ value is. is;
  way_added = λ row is. is;
  gives = λ a b. refl;
  row_lost = λ members value there has. zipped members (value ∷ []) [] there has;
  row_added = λ members row there has. zipped members [] (row ∷ []) there has;
  row = λ members value row there has. (zipped members (value ∷ []) (row ∷ []) there has).0;
}

-- ---- rows

pub same_members : (a b : Members) → table a ≡ table b → a ≡ b
same_members a b e = cc

pub no_text : (text : Text) (a : Members) → string text ≡ table a → ⊥
no_text text a e = cc

poses_in : (members : Members) (row : PoseRow) → PosesAreIn members row
poses_in members row = record {
  name = λ is. ap (get_member (codes "name")) (same_members members is.members is.is_table) ∙ is.name;
  gives = λ is. ap (get_member (codes "gives")) (same_members members is.members is.is_table) ∙ is.gives;
  after_moving = λ is. subst (λ ms. IsTruth (get_member (codes "after_moving") ms) row.after_moving) (sym (same_members members is.members is.is_table)) is.after_moving;
  no_table = λ text is. no_text text is.members is.is_table;
  unknown = λ value is. impossible (ap (has_only pose_keys) (same_members (member (codes "places") value members) is.members is.is_table) ∙ is.keys);
}

machines_in : (members : Members) (row : MachineRow) → MachinesAreIn members row
machines_in members row = record {
  name = λ is. ap (get_member (codes "name")) (same_members members is.members is.is_table) ∙ is.name;
  places = λ is. ap (items_at (codes "places")) (same_members members is.members is.is_table) ∙ is.places;
  sources = λ is. ap (items_at (codes "sources")) (same_members members is.members is.is_table) ∙ is.sources;
  sinks = λ is. ap (items_at (codes "sinks")) (same_members members is.members is.is_table) ∙ is.sinks;
  poses = λ is. subst (λ ms. HasRows IsPoseIn (codes "poses") ms row.poses.items) (sym (same_members members is.members is.is_table)) is.poses;
  sensors = λ is. ap (items_at (codes "sensors")) (same_members members is.members is.is_table) ∙ is.sensors;
  program = λ is. ap (items_at (codes "program")) (same_members members is.members is.is_table) ∙ is.program;
  no_table = λ text is. no_text text is.members is.is_table;
  unknown = λ value is. impossible (ap (has_only machine_keys) (same_members (member (codes "host") value members) is.members is.is_table) ∙ is.keys);
}

zones_in : (zone : Members) (row : ZoneRow) → ZonesAreIn zone row
zones_in zone row = record {
  name = λ is. is.name;
  host = λ is. is.host;
  guest = λ is. is.guest;
  inward = λ is. is.inward;
  outward = λ is. is.outward;
  alone = λ is. (is.space, is.joins);
  unknown = λ value is. impossible is.keys;
  no_list = λ value is. impossible is.keys;
}

not_first : (k : ℕ) → not (nat_eq (suc k) 0) ≡ true
not_first k =
    ap not
    (false_from_ne_true (nat_eq (suc k) 0)
    (λ same. let e : suc k ≡ 0 = eqb-true (suc k) 0 same in absurd (omega (arith, e))))

sides_in : (zone members : Members) (k : ℕ) (row : ZoneRow) → SidesAreIn zone members k row
sides_in zone members k row = record {
  name = λ is. ap (get_member (codes "name")) (same_members members is.members is.is_table) ∙ is.name;
  guest = λ is. ap (get_member (codes "guest")) (same_members members is.members is.is_table) ∙ is.guest;
  inward = λ is. subst (λ ms. IsWay (get_member (codes "inward") ms) row.inward) (sym (same_members members is.members is.is_table)) is.inward;
  outward = λ is. subst (λ ms. IsWay (get_member (codes "outward") ms) row.outward) (sym (same_members members is.members is.is_table)) is.outward;
  host = λ is. is.host;
  space = λ space is some. subst (HasSpace zone) some is.space;
  no_space = λ is none. subst (HasSpace zone) none is.space;
  first = λ is. is.joins;
  later = λ is. is.joins ∙ not_first k;
  no_table = λ text is. no_text text is.members is.is_table;
  unknown = λ value is. impossible (ap (has_only side_keys) (same_members (member (codes "host") value members) is.members is.is_table) ∙ is.keys);
}

same_list : (xs ys : List Data) → Some xs ≡ Some ys → xs ≡ ys
same_list xs ys e = cc

-- the guests that a zone lists are those of its rows
guests_of : (zone : Members) (rows : List ZoneRow) (items : List Data) → items_at (codes "guests") zone ≡ Some items → (is : AreSidesIn zone rows) → AreSides zone items rows
guests_of zone rows items there is =
    subst (λ all. AreSides zone all rows) (same_list is.items items (sym is.guests.listed ∙ there)) is.sides

spaces_in : (zone : Members) (a b : Data) (x y : ZoneRow) (rows : List ZoneRow) → SpacesAreIn zone a b x y rows
spaces_in zone a b x y rows = record {
  plain = λ none is. subst (λ guests. AreRowsBy guests zone rows) none (own_rows is);
  listed = λ some is. subst (λ guests. AreRowsBy guests zone rows) some (own_rows is);
  no_table = λ text is. no_text text is.zone is.is_table;
  guest_beside = λ is. impossible is.keys;
  none = λ there is. is.guests.some (same_list is.items [] (sym is.guests.listed ∙ there));
  two = λ there is. let all = guests_of zone (x ∷ y ∷ []) (a ∷ b ∷ []) there is in (all.0, all.1.0);
  lost = λ there is. (guests_of zone (x ∷ []) (a ∷ b ∷ []) there is).1;
}
  where
    own_rows : IsZoneIn (table zone) rows → AreRowsBy (get_member (codes "guests") zone) zone rows
    own_rows is = subst (λ ms. AreRowsBy (get_member (codes "guests") ms) ms rows) (sym (same_members zone is.zone is.is_table)) is.rows_are

documents_in : (ms : Members) (d : Document) → DocumentsAreIn ms d
documents_in ms d = record {
  machines = λ is. is.machines;
  zones = λ is. is.zones;
  unknown = λ value is. impossible is.keys;
}

same_some : (a b : Members) → Some a ≡ Some b → a ≡ b
same_some a b e = cc

not_none : (a : Members) → Some a ≡ None → ⊥
not_none a e = cc

plans_in : (bytes : List ℕ) (plan : ProgrammedPlan) → PlansAreIn bytes plan
plans_in bytes plan = record {
  no_toml = λ is none. not_none is.members (sym is.is_toml ∙ none);
  toml = λ members is there. read members is there;
}
  where
    read : (members : Members) → IsPlanIn bytes plan → parse_document bytes ≡ Some members → (d : Document) × IsDocumentIn members d × IsPlanOf d plan
    read members is there =
        let same : is.members ≡ members = same_some is.members members (sym is.is_toml ∙ there) in
        let says : IsPlanOfTable members plan = subst (λ ms. IsPlanOfTable ms plan) same is.says in
        (says.document, says.rows, says.says)

pub reading_rows : RowsAreRead
reading_rows = record {
  values = values_read;
  poses = poses_in;
  machines = machines_in;
  zones = zones_in;
  sides = sides_in;
  spaces = spaces_in;
  documents = documents_in;
  plans = plans_in;
}
