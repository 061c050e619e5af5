-- Machines, zones, places and a machine's poses are told apart by their names in the plan of a document.
use Rattle.std.proofs.Common.{◌≡◌, ◌∙◌, ◌<◌, ◌≤◌, ℕ, zero, suc, ◌+◌, Bool, true, false, ◌&&◌, nat_eq, List, [], ◌∷◌, ◌++◌, codes, Option, Some, None, inl, inr, get_or, length, map, ap, ap₂, sym, refl, arith}
use Rattle.std.specs.Prelude.{string_bytes}
use Rattle.std.specs.List.{AllZip, enumerate_from, flat_map, list_all}
use Rattle.std.specs.Bool.{then_some}
use Rattle.std.specs.Str.{bytes_eq}
use Rattle.std.proofs.lemmas.Bool.{and_parts, cases_lt, eq-eqb, eqb-true}
use Rattle.std.proofs.lemmas.List.{get_or-map, length-map, map-append}
use Rattle.std.proofs.lemmas.Slice.Eq.{bytes_eq-Decides}
use Rattle.plan_types.specs.Table.{machine_of, no_pose}
use Rattle.plan_types.specs.declared.table.PlanPose.{PlanPose}
use Rattle.plan_types.proofs.lemmas.Below.{first_below_none, first_of}
use Rattle.plan_text.specs.Calls.{caller_of, own_pose, pose_if}
use Rattle.plan_text.specs.HistoryLaws.{AreToldApart}
use Rattle.plan_text.specs.Named.{Named}
use Rattle.plan_text.specs.Names.{Text, name_in, number_if, number_in}
use Rattle.plan_document.specs.Names.{all_poses, identifier, identifiers, identifiers_in, machine_names, names_in, numbered_poses, pose_names}
use Rattle.plan_document.specs.Saying.{IsNamedPlanOf, IsPoseOf, is_free}
use Rattle.plan_document.specs.declared.document.Document.{Document}
use Rattle.plan_document.specs.declared.document.MachineRow.{MachineRow}
use Rattle.plan_document.specs.declared.document.PoseRow.{PoseRow}

-- ---- machines

at_all : (test : Text → Bool) (names : List Text) (number : ℕ) → number < length names → list_all test names ≡ true → test (name_in names number) ≡ true
at_all test [] number few all = absurd (omega arith)
at_all test (name ∷ names) zero few all = (and_parts (test name) (list_all test names) all).0
at_all test (name ∷ names) (suc number) few all = at_all test names number (omega arith) (and_parts (test name) (list_all test names) all).1

-- the word for the watch is no machine's
not_watch : (name : Text) → is_free name ≡ true → bytes_eq name (codes "watch") ≡ false
not_watch name free = by (bytes_eq name (codes "watch")) refl
  where
    by : (b : Bool) → bytes_eq name (codes "watch") ≡ b → bytes_eq name (codes "watch") ≡ false
    by false e = e
    by true e =
        let same : name ≡ codes "watch" = (bytes_eq-Decides name (codes "watch")).0 e in
        let lie : true ≡ false = sym free ∙ ap is_free same in
        absurd (cc)

machine_told : (d : Document) (n : Named) → IsNamedPlanOf d n → (m : ℕ) → m < length n.machines → caller_of n (name_in n.machines m) ≡ Some m
machine_told d n is m few =
    let other : bytes_eq (name_in n.machines m) (codes "watch") ≡ false = not_watch (name_in n.machines m) (at_all is_free n.machines m few is.free) in
    rw other (is.distinct_machines m few)

-- ---- poses

abbrev poses_from : ℕ → List MachineRow → List (ℕ × PoseRow)
poses_from first rows = flat_map (λ (machine, row). numbered_poses machine row.poses.items) (enumerate_from first rows)

-- the names of poses, of their rows
pose_texts : (first : ℕ) (rows : List MachineRow) → pose_names rows ≡ map (λ (r : ℕ × PoseRow). string_bytes r.1.name) (poses_from first rows)
pose_texts first [] = refl
pose_texts first (row ∷ rows) =
    ap₂ (λ a b. a ++ b) (own row.poses.items) (pose_texts (first + 1) rows)
    ∙ sym (map-append (λ (r : ℕ × PoseRow). string_bytes r.1.name) (numbered_poses first row.poses.items) (poses_from (first + 1) rows))
  where
    own : (poses : List PoseRow) → names_in poses ≡ map (λ (r : ℕ × PoseRow). string_bytes r.1.name) (numbered_poses first poses)
    own [] = refl
    own (pose ∷ poses) = ap (λ l. string_bytes pose.name ∷ l) (own poses)

-- rows of machines from a first number on have these names
named_at : (names : List Text) (first : ℕ) (row : MachineRow) (rows : List MachineRow)
    → ((k : ℕ) → k < length (row ∷ rows) → name_in names (first + k) ≡ name_in (machine_names (row ∷ rows)) k)
    → (k : ℕ) → k < length rows → name_in names (first + 1 + k) ≡ name_in (machine_names rows) k
named_at names first row rows all k few =
    let same : first + 1 + k ≡ first + suc k = omega arith in
    ap (name_in names) same ∙ all (suc k) (omega arith)

-- the name of a pose for C, by the number of its machine and its own name
abbrev c_name : List Text → (ℕ × PoseRow) → Text
c_name names r = identifier (name_in names r.0) (string_bytes r.1.name)

c_names : (names : List Text) (first : ℕ) (rows : List MachineRow)
    → ((k : ℕ) → k < length rows → name_in names (first + k) ≡ name_in (machine_names rows) k)
    → identifiers rows ≡ map (c_name names) (poses_from first rows)
c_names names first [] all = refl
c_names names first (row ∷ rows) all =
    ap₂ (λ a b. a ++ b) (own (string_bytes row.name) here row.poses.items) (c_names names (first + 1) rows (named_at names first row rows all))
    ∙ sym (map-append (c_name names) (numbered_poses first row.poses.items) (poses_from (first + 1) rows))
  where
    here : name_in names first ≡ string_bytes row.name
    here = (let same : first ≡ first + 0 = omega arith in ap (name_in names) same ∙ all 0 (omega arith))

    own : (machine : Text) → name_in names first ≡ machine → (poses : List PoseRow) → identifiers_in machine poses ≡ map (c_name names) (numbered_poses first poses)
    own machine e [] = refl
    own machine e (pose ∷ poses) = ap₂ (λ a b. a ∷ b) (ap (λ m. identifier m (string_bytes pose.name)) (sym e)) (own machine e poses)

-- the machine of a pose is that of its row
machines_of : (zones : List Text) (rows : List (ℕ × PoseRow)) (poses : List PlanPose) (p : ℕ) (d : ℕ × PoseRow) → AllZip (IsPoseOf zones) rows poses → p < length rows → (get_or poses p no_pose).machine ≡ (get_or rows p d).0
machines_of zones [] poses p d all few = absurd (omega arith)
machines_of zones (row ∷ rows) [] p d all few = absurd all
machines_of zones (row ∷ rows) (pose ∷ poses) zero d all few = all.0.machine
machines_of zones (row ∷ rows) (pose ∷ poses) (suc p) d all few = machines_of zones rows poses p d all.1 (omega arith)

-- ---- the pose that a machine means

-- the first of the same names has the number
first_name : (names : List Text) (p q : ℕ) → q ≤ p → p < length names → number_in names (name_in names p) ≡ Some p → name_in names q ≡ name_in names p → q ≡ p
first_name names p q order few found same =
    let h = first_of (number_if names (name_in names p)) (length names) p found in
    by h.at h.none (passed (bytes_eq (name_in names h.at) (name_in names p)) h.at p h.has)
  where
    passed : (test : Bool) (k v : ℕ) → then_some test k ≡ Some v → k ≡ v
    passed true k v e = cc
    passed false k v e = absurd (cc)

    by : (at : ℕ) → ((i : ℕ) → i < at → number_if names (name_in names p) i ≡ None) → at ≡ p → q ≡ p
    by at none is = elim (cases_lt q p) [
      | inl less ↦
          (let missing : number_if names (name_in names p) q ≡ None = none q (omega arith) in
          let equal : bytes_eq (name_in names q) (name_in names p) ≡ true = (bytes_eq-Decides (name_in names q) (name_in names p)).1 same in
          let there : number_if names (name_in names p) q ≡ Some q = rw equal refl in
          let lie : Some q ≡ None = sym there ∙ missing in
          absurd (cc))
      | inr more ↦ omega arith
    ]

-- a machine means its own pose by its name
pose_told : (d : Document) (n : Named) → IsNamedPlanOf d n → (p : ℕ) → p < length n.poses → own_pose n (machine_of n.plan p) (name_in n.poses p) ≡ Some p
pose_told d n is p few = by (own_pose n (machine_of n.plan p) (name_in n.poses p)) refl
  where
    rows : List (ℕ × PoseRow)
    rows = all_poses d.machines.items

    names : n.poses ≡ map (λ (r : ℕ × PoseRow). string_bytes r.1.name) (all_poses d.machines.items)
    names = is.named_poses ∙ pose_texts 0 d.machines.items

    known : (k : ℕ) → k < length d.machines.items → name_in n.machines (0 + k) ≡ name_in (machine_names d.machines.items) k
    known k l = (let same : 0 + k ≡ k = omega arith in ap (name_in n.machines) same ∙ ap (λ l. name_in l k) is.named_machines)

    ids : identifiers d.machines.items ≡ map (c_name n.machines) (all_poses d.machines.items)
    ids = c_names n.machines 0 d.machines.items known

    many : length n.poses ≡ length (all_poses d.machines.items)
    many = ap length names ∙ length-map (all_poses d.machines.items) (λ (r : ℕ × PoseRow). string_bytes r.1.name)

    many_ids : length (identifiers d.machines.items) ≡ length (all_poses d.machines.items)
    many_ids = ap length ids ∙ length-map (all_poses d.machines.items) (c_name n.machines)

    -- the name for C of a pose of the plan
    id_at : (q : ℕ) → q < length n.poses → name_in (identifiers d.machines.items) q ≡ identifier (name_in n.machines (machine_of n.plan q)) (name_in n.poses q)
    id_at q l = at (all_poses d.machines.items) refl (omega (arith, l, many))
      where
        at : (rs : List (ℕ × PoseRow)) → all_poses d.machines.items ≡ rs → q < length (all_poses d.machines.items) → name_in (identifiers d.machines.items) q ≡ identifier (name_in n.machines (machine_of n.plan q)) (name_in n.poses q)
        at [] e less = (let none : length (all_poses d.machines.items) ≡ 0 = ap length e in absurd (omega (arith, less, none)))
        at (r ∷ rs) e less =
            let own : machine_of n.plan q ≡ (get_or (all_poses d.machines.items) q r).0 = machines_of n.zones (all_poses d.machines.items) n.plan.poses q r is.poses less in
            let called : name_in n.poses q ≡ string_bytes (get_or (all_poses d.machines.items) q r).1.name =
            ap (λ l. name_in l q) names ∙ get_or-map (λ (x : ℕ × PoseRow). string_bytes x.1.name) (all_poses d.machines.items) q r [] less in
            ap (λ l. name_in l q) ids ∙ get_or-map (c_name n.machines) (all_poses d.machines.items) q r [] less
            ∙ ap₂ (λ m t. identifier (name_in n.machines m) t) (sym own) (sym called)

    by : (o : Option ℕ) → own_pose n (machine_of n.plan p) (name_in n.poses p) ≡ o → own_pose n (machine_of n.plan p) (name_in n.poses p) ≡ Some p
    by None none =
        let missed = first_below_none (pose_if n (machine_of n.plan p) (name_in n.poses p)) (length n.poses) none p few in
        let same : bytes_eq (name_in n.poses p) (name_in n.poses p) ≡ true = (bytes_eq-Decides (name_in n.poses p) (name_in n.poses p)).1 refl in
        let there : pose_if n (machine_of n.plan p) (name_in n.poses p) p ≡ Some p = rw (eq-eqb (machine_of n.plan p) (machine_of n.plan p) refl, same) refl in
        let lie : Some p ≡ None = sym there ∙ missed in
        absurd (cc)
    by (Some q) found =
        let h = first_of (pose_if n (machine_of n.plan p) (name_in n.poses p)) (length n.poses) q found in
        let t = tested (nat_eq (machine_of n.plan h.at) (machine_of n.plan p)) (bytes_eq (name_in n.poses h.at) (name_in n.poses p)) h.at q h.has in
        let order : h.at ≤ p = not_after h.at h.none in
        let machine : machine_of n.plan h.at ≡ machine_of n.plan p = eqb-true (machine_of n.plan h.at) (machine_of n.plan p) t.0 in
        let called : name_in n.poses h.at ≡ name_in n.poses p = (bytes_eq-Decides (name_in n.poses h.at) (name_in n.poses p)).0 t.1 in
        let same : name_in (identifiers d.machines.items) h.at ≡ name_in (identifiers d.machines.items) p =
        id_at h.at h.below ∙ ap₂ (λ m t. identifier (name_in n.machines m) t) machine called ∙ sym (id_at p few) in
        let one : h.at ≡ p = first_name (identifiers d.machines.items) p h.at order (omega (arith, few, many, many_ids)) (is.distinct_poses p (omega (arith, few, many, many_ids))) same in
        found ∙ ap Some (sym t.2 ∙ one)
      where
        tested : (a b : Bool) (k v : ℕ) → then_some (a && b) k ≡ Some v → (a ≡ true) × (b ≡ true) × (k ≡ v)
        tested true true k v e = (refl, refl, cc)
        tested true false k v e = absurd (cc)
        tested false b k v e = absurd (cc)

        not_after : (at : ℕ) → ((i : ℕ) → i < at → pose_if n (machine_of n.plan p) (name_in n.poses p) i ≡ None) → at ≤ p
        not_after at none = elim (cases_lt p at) [
          | inl after ↦
              (let missed = none p after in
              let same : bytes_eq (name_in n.poses p) (name_in n.poses p) ≡ true = (bytes_eq-Decides (name_in n.poses p) (name_in n.poses p)).1 refl in
              let there : pose_if n (machine_of n.plan p) (name_in n.poses p) p ≡ Some p = rw (eq-eqb (machine_of n.plan p) (machine_of n.plan p) refl, same) refl in
              let lie : Some p ≡ None = sym there ∙ missed in
              absurd (cc))
          | inr before ↦ omega arith
        ]

pub told_apart : (d : Document) (n : Named) → IsNamedPlanOf d n → AreToldApart n
told_apart d n is = record {
  spelled_machines = is.spelled_machines;
  spelled_zones = is.spelled_zones;
  spelled_poses = is.spelled_poses;
  spelled_places = is.spelled_places;
  machines = machine_told d n is;
  zones = is.distinct_zones;
  poses = pose_told d n is;
  places = is.distinct_places;
}
