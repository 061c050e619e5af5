-- What rows say of zones, and which poses rows are of.
use Rattle.std.proofs.Common.{◌≡◌, ◌∙◌, ◌+◌, ◌++◌, ◌∷◌, [], ℕ, true, false, List, length, sym, ap, refl, string_bytes, eq-eqb}
use Rattle.std.proofs.Common.{Option, Some, None, append-nil, filter_map, is_some, nat_eq, ne_eqb}
use Rattle.std.proofs.lemmas.List.{append_assoc, length-map}
use Rattle.std.proofs.lemmas.List.Elements.{filter_map-append}
use Rattle.std.specs.List.{cons_option, last_or, list_all}
use Rattle.std.specs.Option.{option_eq}
use Rattle.plan_types.specs.Table.{no_pose, pose_row}
use Rattle.plan_text.specs.Answers.{posture_of}
use Rattle.plan_text.specs.Named.{Named}
use Rattle.plan_text.specs.Names.{Text, name_in, number_in}
use Rattle.plan_document.specs.declared.document.MachineRow.{MachineRow}
use Rattle.plan_document.specs.declared.document.PoseRow.{PoseRow}
use Rattle.plan_document.specs.declared.document.PostureRow.{PostureRow}
use Rattle.plan_document.specs.Names.{all_poses, names_in, numbered_poses, pose_names}
use Rattle.plan_document.specs.PlanLaws.{AreOfOthers, HasPostureWord, HasZoneName, IsLast, IsOfZone, PoseHasName, PosesHaveNames, StandsAt}
use Rattle.plan_document.specs.Postures.{given, given_by, gives_zone}
use Rattle.plan_document.specs.Saying.{IsPoseOf}
use Rattle.plan_document.proofs.Given.{given_here}
use Rattle.plan_document.proofs.PlanRows.{both, impossible}
use Rattle.plan_document.proofs.Standing.{all_at, begins, flat_at, later, mapped, numbered_flat, read_at, zip_at}

-- ---- rows about a zone

pub other_number : (o : Option ℕ) (zone : ℕ) → (o ≡ Some zone → ⊥) → option_eq nat_eq o (Some zone) ≡ false
other_number None zone others = refl
other_number (Some k) zone others = ne_eqb k zone (λ e. others (ap (λ (j : ℕ). Some j) e))

none_by : {X : Type 0} (meaning : Text → Option X) (zones : List Text) (row : PostureRow) (zone : ℕ) → (number_in zones (string_bytes row.zone) ≡ Some zone → ⊥) → given_by meaning zones zone row ≡ None
none_by meaning zones row zone other = rw (other_number (number_in zones (string_bytes row.zone)) zone other) refl

some_by : {X : Type 0} (meaning : Text → Option X) (zones : List Text) (row : PostureRow) (zone : ℕ) (x : X) → number_in zones (string_bytes row.zone) ≡ Some zone → meaning (string_bytes row.posture) ≡ Some x → given_by meaning zones zone row ≡ Some x
some_by meaning zones row zone x about word = rw (about, eq-eqb zone zone refl, word) refl

-- rows about other zones say nothing of a zone
says_nothing : {X : Type 0} (meaning : Text → Option X) (n : Named) (rows : List PostureRow) (zone : ℕ) → AreOfOthers n zone rows → filter_map (given_by meaning n.zones zone) rows ≡ []
says_nothing meaning n [] zone others = refl
says_nothing {X = X} meaning n (row ∷ rows) zone others =
    ap (λ (o : Option X). cons_option o (filter_map (given_by meaning n.zones zone) rows)) (none_by meaning n.zones row zone (others 0 row (begins row rows)))
    ∙ says_nothing meaning n rows zone (λ i one here. others (i + 1) one (later row rows i one here))

pub given_nothing : {X : Type 0} (meaning : Text → Option X) (n : Named) (rows : List PostureRow) (zone : ℕ) → AreOfOthers n zone rows → given meaning n.zones rows zone ≡ None
given_nothing meaning n rows zone others = ap (last_or None) (says_nothing meaning n rows zone others)

-- items that say nothing after others
last_part : {A X : Type 0} (said : A → Option X) (front back : List A) → filter_map said back ≡ [] → last_or None (filter_map said (front ++ back)) ≡ last_or None (filter_map said front)
last_part {X = X} said front back none =
    ap (last_or None) (filter_map-append said front back ∙ ap (λ (xs : List X). filter_map said front ++ xs) none ∙ append-nil (filter_map said front))

-- the last row about a zone says what is given to it
pub last_says : {X : Type 0} (meaning : Text → Option X) (n : Named) (rows : List PostureRow) (zone : ℕ) (one : PostureRow) (x : X) → IsLast n rows zone one → meaning (string_bytes one.posture) ≡ Some x → given meaning n.zones rows zone ≡ Some x
last_says meaning n rows zone one x last word =
    ap (λ rs. given meaning n.zones rs zone) (last.is ∙ sym (append_assoc last.before (one ∷ []) last.after))
    ∙ last_part (given_by meaning n.zones zone) (last.before ++ one ∷ []) last.after (says_nothing meaning n last.after zone last.others)
    ∙ given_here meaning n.zones last.before one zone x (some_by meaning n.zones one zone x last.about word)

-- some row about a zone says something of it
not_none : {X : Type 0} (x : X) (xs : List X) → last_or None (x ∷ xs) ≡ None → ⊥
not_none x [] e = cc
not_none x (y ∷ ys) e = not_none y ys e

after_some : {X : Type 0} (o : Option X) (xs : List X) (x : X) (ys : List X) → last_or o (xs ++ x ∷ ys) ≡ last_or None (x ∷ ys)
after_some o [] x ys = refl
after_some o (z ∷ zs) x ys = after_some (Some z) zs x ys

some_part : {A X : Type 0} (said : A → Option X) (front : List A) (one : A) (back : List A) (x : X) → said one ≡ Some x → last_or None (filter_map said (front ++ one ∷ back)) ≡ None → ⊥
some_part {X = X} said front one back x is e =
    not_none x (filter_map said back)
    (sym (ap (last_or None) (filter_map-append said front (one ∷ back) ∙ ap (λ (o : Option X). filter_map said front ++ cons_option o (filter_map said back)) is)
    ∙ after_some None (filter_map said front) x (filter_map said back))
    ∙ e)

pub says_something : {X : Type 0} (meaning : Text → Option X) (n : Named) (rows : List PostureRow) (zone i : ℕ) (one : PostureRow) → list_all (gives_zone meaning n.zones) rows ≡ true → StandsAt rows i one → IsOfZone n zone one → given meaning n.zones rows zone ≡ None → ⊥
says_something {X = X} meaning n rows zone i one known here about e =
    by (meaning (string_bytes one.posture)) refl
  where
    by : (o : Option X) → meaning (string_bytes one.posture) ≡ o → ⊥
    by None word =
        let h = both (is_some (number_in n.zones (string_bytes one.zone))) (is_some (meaning (string_bytes one.posture))) (all_at (gives_zone meaning n.zones) rows i one known here) in
        impossible (sym (ap (λ (o : Option X). is_some o) word) ∙ h.1)
    by (Some x) word =
        some_part (given_by meaning n.zones zone) here.before one here.after x (some_by meaning n.zones one zone x about word)
        (sym (ap (λ rs. given meaning n.zones rs zone) here.is) ∙ e)

-- what rows have that say something by words of postures
pub known_by : (n : Named) (rows : List PostureRow) → list_all (gives_zone posture_of n.zones) rows ≡ true → (i : ℕ) (one : PostureRow) → StandsAt rows i one → HasZoneName n one × HasPostureWord one
known_by n rows all i one here =
    both (is_some (number_in n.zones (string_bytes one.zone))) (is_some (posture_of (string_bytes one.posture))) (all_at (gives_zone posture_of n.zones) rows i one all here)

-- ---- poses

-- the number of a pose among the names of all, and among the rows of all
own_pose : (machines : List MachineRow) (machine : ℕ) (row : MachineRow) (here : StandsAt machines machine row) (nth : ℕ) (pose : PoseRow) → StandsAt row.poses.items nth pose
    → StandsAt (pose_names machines) (length (pose_names here.before) + nth) (string_bytes pose.name)
own_pose machines machine row here nth pose named =
    flat_at (λ (r : MachineRow). names_in r.poses.items) machines machine row here nth (string_bytes pose.name)
    (mapped (λ (p : PoseRow). string_bytes p.name) row.poses.items nth pose named)

own_row : (machines : List MachineRow) (machine : ℕ) (row : MachineRow) (here : StandsAt machines machine row) (nth : ℕ) (pose : PoseRow) → StandsAt row.poses.items nth pose
    → StandsAt (all_poses machines) (length (pose_names here.before) + nth) (machine, pose)
own_row machines machine row here nth pose named =
    numbered_flat (λ (r : ℕ × MachineRow). numbered_poses r.0 r.1.poses.items) (λ (r : MachineRow). names_in r.poses.items)
    (λ k r. length-map {B = ℕ × PoseRow} r.poses.items (λ (p : PoseRow). (k, p)) ∙ sym (length-map r.poses.items (λ (p : PoseRow). string_bytes p.name)))
    machines machine row here nth (machine, pose) (mapped {B = ℕ × PoseRow} (λ (p : PoseRow). (machine, p)) row.poses.items nth pose named)

pose_has : (n : Named) (number machine : ℕ) (row : PoseRow) → name_in n.poses number ≡ string_bytes row.name → IsPoseOf n.zones (machine, row) (pose_row n.plan number) → PoseHasName n number machine row
pose_has n number machine row named at = record {
  name = named;
  machine = at.machine;
  after_moving = at.after_moving;
  gives = λ zone one posture small last word. at.gives.last_given zone small ∙ last_says posture_of n row.gives.items zone one posture last word;
  gives_none = λ zone small others. at.gives.last_given zone small ∙ given_nothing posture_of n row.gives.items zone others;
  known = known_by n row.gives.items at.gives.known;
}

pub posed : PosesHaveNames
posed d n is machine row here nth pose named =
    let number = length (pose_names here.before) + nth in
    pose_has n number machine pose
    (ap (λ ns. name_in ns number) is.named_poses ∙ read_at (pose_names d.machines.items) number (string_bytes pose.name) [] (own_pose d.machines.items machine row here nth pose named))
    (zip_at (IsPoseOf n.zones) (all_poses d.machines.items) n.plan.poses number (machine, pose) no_pose is.poses (own_row d.machines.items machine row here nth pose named))
