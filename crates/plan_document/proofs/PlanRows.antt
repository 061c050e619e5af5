-- What it means that a plan is a document's, in examples.
use Rattle.std.proofs.Common.{◌≡◌, ◌≢◌, ◌∙◌, ℕ, Bool, true, false, ◌&&◌, List, [], ◌∷◌, ◌++◌, codes, length, map, drop, slice_index, nat_eq, Some, None, is_some, refl, sym, ap, subst, arith, string_bytes}
use Rattle.std.specs.Prelude.{String}
use Rattle.std.specs.declared.alloc.Global.{Global}
use Rattle.std.proofs.lemmas.List.{append-nil}
use Rattle.std.specs.List.{AllZip, list_all}
use Rattle.plan_types.specs.declared.call.Call.{Call}
use Rattle.plan_types.specs.declared.call.Call.TheVariants.{Claim as ClaimCall, Give, Yield as YieldCall, Take as TakeCall, Release as ReleaseCall, SetPose}
use Rattle.plan_types.specs.Examples.{lift_table}
use Rattle.plan_rules.specs.declared.state.State.{State}
use Rattle.plan_rules.specs.Sound.{IsSound}
use Rattle.plan_types.specs.declared.table.PlanPose.{PlanPose}
use Rattle.plan_types.specs.declared.table.PlanZone.{PlanZone}
use Rattle.plan_text.specs.Answers.{posture_of}
use Rattle.plan_text.specs.Calls.{verb_word}
use Rattle.plan_text.specs.Named.{Named}
use Rattle.plan_text.specs.Names.{Text, is_name, number_in}
use Rattle.plan_text.specs.declared.calls.Verb.{Verb}
use Rattle.plan_text.specs.declared.calls.Verb.TheVariants.{Claim, Give as GiveVerb, Yield, Take, Release, Inquire, Pose, Advance}
use Rattle.plan_document.specs.declared.document.Document.{Document}
use Rattle.plan_document.specs.declared.document.MachineRow.{MachineRow}
use Rattle.plan_document.specs.declared.document.PoseRow.{PoseRow}
use Rattle.plan_document.specs.declared.document.PostureRow.{PostureRow}
use Rattle.plan_document.specs.declared.document.ZoneRow.{ZoneRow}
use Rattle.plan_document.specs.declared.resolving.ProgrammedPlan.{ProgrammedPlan}
use Rattle.plan_document.specs.Laws.{AcceptedLinesAreTheirs, RefusedLinesAreNeverDone}
use Rattle.plan_document.specs.NameLaws.{NamesAreWords, is_one_word}
use Rattle.plan_document.specs.Names.{AreDistinct, all_poses, machine_names, names_in, numbered, place_names, pose_names, space_names, zone_names}
use Rattle.plan_document.specs.Postures.{gives_zone}
use Rattle.plan_document.specs.Saying.{IsCallOf, IsNamedPlanOf, IsPlanOf, IsPoseOf, IsProgramOf, IsZoneOf, is_free, ends_in, place_rows, calls_of, may_be_done, own_call}
use Rattle.plan_document.specs.PlanExamples.{AreApart, AreOneWord, DocumentsAreMet, HasTwo, LawsOfLift, LinesAreRead, NamesAreTold, NeverDone, NeverTheirs, PlansHaveNames, PlansHavePrograms, PlansHaveRows, PlansSayRows, PosesAreRead, PosturesAreGiven, SpacesAreNamed, WaysAreRead, ZonesAreRead, letters}
use Rattle.plan_document.specs.WordExamples.{parked}

pub impossible : false ≡ true → ⊥
impossible e = cc

pub both : (a b : Bool) → (a && b) ≡ true → (a ≡ true) × (b ≡ true)
both true b e = (refl, e)
both false b e = absurd (cc)

-- ---- names

pub are_apart : (names : List Text) → AreDistinct names → AreApart names
are_apart names all i j li lj same =
    let e : Some i ≡ Some j = sym (all i li) ∙ ap (number_in names) same ∙ all j lj in
    cc

name_rows : NamesAreTold
name_rows = record {
  apart = are_apart;
  first = impossible;
  last = impossible;
  empty = impossible;
}

-- names that pass a test aren't those of which one fails it
pub unless : (test : Text → Bool) (names wrong : List Text) → list_all test names ≡ true → list_all test wrong ≡ false → names ≢ wrong
unless test names wrong pass fails same = impossible (sym fails ∙ sym (ap (list_all test) same) ∙ pass)

word_rows : (n : Named) → NamesAreWords n → AreOneWord n
word_rows n is = record {
  machines = unless is_one_word n.machines _ is.machines refl;
  zones = unless is_one_word n.zones _ is.zones refl;
  places = unless is_one_word n.places _ is.places refl;
  poses = unless is_one_word n.poses _ is.poses refl;
}

-- ---- zones

-- a name that is said to have a number has it
pub has : (names : List Text) (name said : Text) (number : ℕ) → number_in names name ≡ Some number → name ≡ said → number_in names said ≡ Some number
has names name said number is e = sym (ap (number_in names) e) ∙ is

third : (name : Text) (number : ℕ) → number_in letters name ≡ Some number → name ≡ codes "c" → number ≡ 2
third name number is e = let h : Some 2 ≡ Some number = has letters name (codes "c") number is e in cc

second : (name : Text) (number : ℕ) → number_in letters name ≡ Some number → name ≡ codes "b" → number ≡ 1
second name number is e = let h : Some 1 ≡ Some number = has letters name (codes "b") number is e in cc

pub fourth : (name : Text) (number : ℕ) → number_in letters name ≡ Some number → name ≡ codes "d" → number ≡ 3
fourth name number is e = let h : Some 3 ≡ Some number = has letters name (codes "d") number is e in cc

pub sixth : (name : Text) (number : ℕ) → number_in letters name ≡ Some number → name ≡ codes "f" → number ≡ 5
sixth name number is e = let h : Some 5 ≡ Some number = has letters name (codes "f") number is e in cc

pub nobody : (name : Text) (number : ℕ) → number_in letters name ≡ Some number → name ≢ codes "x"
nobody name number is e = let h : None ≡ Some number = has letters name (codes "x") number is e in cc

way_rows : WaysAreRead
way_rows = record {
  way = λ row way is from to. (third (string_bytes row.from) way.from is.0 from, second (string_bytes row.to) way.to is.1 to);
  from_nowhere = λ row way is. nobody (string_bytes row.from) way.from is.0;
  to_nowhere = λ row way is. nobody (string_bytes row.to) way.to is.1;
  way_lost = λ row is. is;
  way_added = λ way is. is;
}

zone_rows : (row : ZoneRow) (zone : PlanZone) → ZonesAreRead row zone
zone_rows row zone = record {
  host = λ is. fourth (string_bytes row.host) zone.host is.host;
  guest = λ is. sixth (string_bytes row.guest) zone.guest is.guest;
  joins = λ is. is.joins;
  no_host = λ is. nobody (string_bytes row.host) zone.host is.host;
  no_guest = λ is. nobody (string_bytes row.guest) zone.guest is.guest;
  inward = λ is. is.inward;
  outward = λ is. is.outward;
}

space_rows : (x y : ZoneRow) (space : String Global) → SpacesAreNamed x y space
space_rows x y space = record {
  listed = λ first listed joined. rw (first, listed, joined) refl;
  apart = λ first alone other too. rw (first, alone, other, too) refl;
  of_space = λ listed. rw listed refl;
  own = λ alone. rw alone refl;
}

-- ---- poses

known_second : (a b : PostureRow) → list_all (gives_zone posture_of letters) (a ∷ b ∷ []) ≡ true → gives_zone posture_of letters b ≡ true
known_second a b all = (both (gives_zone posture_of letters b) true (both (gives_zone posture_of letters a) _ all).1).0

posture_rows : (a b : PostureRow) → PosturesAreGiven a b
posture_rows a b = record {
  last = λ x y. rw (x.zone, x.posture, y.zone, y.posture) refl;
  both = λ x y. rw (x.zone, x.posture, y.zone) refl;
  none = λ x y. rw (x.zone, y.zone) refl;
  tenth = λ gives is x. is.last_given 9 (omega arith) ∙ rw (x.zone, x.posture) refl;
  ninth = λ gives is x. is.last_given 8 (omega arith) ∙ rw (x.zone) refl;
  no_zone = λ gives is e. no_zone e (known_second a b is.known);
  no_posture = λ gives is e. no_posture e (known_second a b is.known);
}
  where
    no_zone : string_bytes b.zone ≡ codes "x" → gives_zone posture_of letters b ≡ true → ⊥
    no_zone e known = let h : false ≡ true = rw e at known in impossible h

    no_posture : string_bytes b.posture ≡ codes "open" → gives_zone posture_of letters b ≡ true → ⊥
    no_posture e known =
        let p = both (is_some (number_in letters (string_bytes b.zone))) (is_some (posture_of (string_bytes b.posture))) known in
        let h : false ≡ true = sym (ap (λ t. is_some (posture_of t)) e) ∙ p.1 in
        impossible h

pose_rows : (row : PoseRow) (pose : PlanPose) → PosesAreRead row pose
pose_rows row pose = record { machine = λ is. is.machine; after_moving = λ is. is.after_moving; gives = λ is. is.gives }

-- ---- programs

-- the only verb that begins with a g
begins : (v : Verb) (name rest : Text) → 103 ∷ rest ≡ verb_word v ++ codes " " ++ name → v ≡ GiveVerb
begins Claim name rest e = absurd (impossible (sym (ap (λ (t : Text). nat_eq (slice_index t 0) 103) e)))
begins GiveVerb name rest e = refl
begins Yield name rest e = absurd (impossible (sym (ap (λ (t : Text). nat_eq (slice_index t 0) 103) e)))
begins Take name rest e = absurd (impossible (sym (ap (λ (t : Text). nat_eq (slice_index t 0) 103) e)))
begins Release name rest e = absurd (impossible (sym (ap (λ (t : Text). nat_eq (slice_index t 0) 103) e)))
begins Inquire name rest e = absurd (impossible (sym (ap (λ (t : Text). nat_eq (slice_index t 0) 103) e)))
begins Pose name rest e = absurd (impossible (sym (ap (λ (t : Text). nat_eq (slice_index t 0) 103) e)))
begins Advance name rest e = absurd (impossible (sym (ap (λ (t : Text). nat_eq (slice_index t 0) 103) e)))

-- what a line of this verb asks
pub asked : (machine : ℕ) (rest : Text) (c : Call) → IsCallOf parked machine (codes "give " ++ rest) c → own_call parked machine GiveVerb rest ≡ Some c
asked machine rest c is = by is.verb is.name is.line_is is.call_is
  where
    by : (v : Verb) (name : Text) → codes "give " ++ rest ≡ verb_word v ++ codes " " ++ name → own_call parked machine v name ≡ Some c → own_call parked machine GiveVerb rest ≡ Some c
    by v name line call =
        let verb = begins v name _ line in
        let e : codes "give " ++ rest ≡ codes "give " ++ name = line ∙ ap (λ (w : Verb). verb_word w ++ codes " " ++ name) verb in
        let same : rest ≡ name = ap (drop 5) e in
        ap (own_call parked machine GiveVerb) same ∙ sym (ap (λ (w : Verb). own_call parked machine w name) verb) ∙ call

-- no verb begins with a capital, and each has a letter
no_capital : (v : Verb) (name : Text) → codes "Give above" ≡ verb_word v ++ codes " " ++ name → ⊥
no_capital Claim name e = impossible (sym (ap (λ (t : Text). nat_eq (slice_index t 0) 71) e))
no_capital GiveVerb name e = impossible (sym (ap (λ (t : Text). nat_eq (slice_index t 0) 71) e))
no_capital Yield name e = impossible (sym (ap (λ (t : Text). nat_eq (slice_index t 0) 71) e))
no_capital Take name e = impossible (sym (ap (λ (t : Text). nat_eq (slice_index t 0) 71) e))
no_capital Release name e = impossible (sym (ap (λ (t : Text). nat_eq (slice_index t 0) 71) e))
no_capital Inquire name e = impossible (sym (ap (λ (t : Text). nat_eq (slice_index t 0) 71) e))
no_capital Pose name e = impossible (sym (ap (λ (t : Text). nat_eq (slice_index t 0) 71) e))
no_capital Advance name e = impossible (sym (ap (λ (t : Text). nat_eq (slice_index t 0) 71) e))

abbrev begun : Text → Bool
begun [] = false
begun (_ ∷ _) = true

no_letter : (v : Verb) (name : Text) → [] ≡ verb_word v ++ codes " " ++ name → ⊥
no_letter Claim name e = impossible (ap begun e)
no_letter GiveVerb name e = impossible (ap begun e)
no_letter Yield name e = impossible (ap begun e)
no_letter Take name e = impossible (ap begun e)
no_letter Release name e = impossible (ap begun e)
no_letter Inquire name e = impossible (ap begun e)
no_letter Pose name e = impossible (ap begun e)
no_letter Advance name e = impossible (ap begun e)

line_rows : LinesAreRead
line_rows = record {
  gives = λ c is. let h : Some (Give 1) ≡ Some c = asked 2 (codes "above") c is in cc;
  strangers = stranger;
  no_zone = λ c is. none c (asked 2 (codes "attic") c is);
  blanks = λ c is. none c (asked 2 (codes " above") c is);
  after_it = λ c is. none c (asked 2 (codes "above ") c is);
  no_verb = λ c is. no_capital is.verb is.name is.line_is;
  empty = λ c is. no_letter is.verb is.name is.line_is;
}
  where
    none : (c : Call) → None ≡ Some c → ⊥
    none c e = cc

    stranger : (c : Call) → IsCallOf parked 1 (codes "give above") c → ⊥
    stranger c is =
        let h : Some (Give 1) ≡ Some c = asked 1 (codes "above") c is in
        let e : Give 1 ≡ c = cc in
        impossible (ap (may_be_done parked.plan 1) e ∙ is.doable)

pub document_rows : DocumentsAreMet
document_rows = record {
  names = name_rows;
  words = word_rows;
  ways = way_rows;
  zones = zone_rows;
  spaces = space_rows;
  postures = posture_rows;
  poses = pose_rows;
  lines = line_rows;
}

-- ---- plans

names_of_plans : (d : Document) (n : Named) (is : IsNamedPlanOf d n) → PlansHaveNames d n is
names_of_plans d n is = record {
  machines_apart = are_apart n.machines is.distinct_machines;
  zones_apart = are_apart n.zones is.distinct_zones;
  places_apart = are_apart n.places is.distinct_places;
  poses_apart = are_apart _ is.distinct_poses;
  spaces_apart = are_apart _ is.distinct_spaces;
  taken = unless is_free n.machines _ is.free refl;
  no_machine = unless is_name n.machines _ is.spelled_machines refl;
  no_zone = unless is_name n.zones _ is.spelled_zones refl;
  no_place = unless is_name n.places _ is.spelled_places refl;
  no_pose = unless is_name n.poses _ is.spelled_poses refl;
}

pub two : {A B : Type 0} (R : A → B → Type 0) (xs : List A) (ys : List B) (a b : A) (x y : B) → AllZip R xs ys → xs ≡ a ∷ b ∷ [] → ys ≡ x ∷ y ∷ [] → R a x × R b y
two R xs ys a b x y all left right =
    let h : AllZip R (a ∷ b ∷ []) (x ∷ y ∷ []) = subst (λ zs. AllZip R (a ∷ b ∷ []) zs) right (subst (λ zs. AllZip R zs ys) left all) in
    (h.0, h.1.0)

pub lost : {A B : Type 0} (R : A → B → Type 0) (xs : List A) (ys : List B) (a b : A) (x : B) → AllZip R xs ys → xs ≡ a ∷ b ∷ [] → ys ≢ x ∷ []
lost R xs ys a b x all left right =
    let h : AllZip R (a ∷ b ∷ []) (x ∷ []) = subst (λ zs. AllZip R (a ∷ b ∷ []) zs) right (subst (λ zs. AllZip R zs ys) left all) in
    h.1

two_poses : (a b : MachineRow) (machines : List MachineRow) (p q : PoseRow) → machines ≡ a ∷ b ∷ [] → a.poses.items ≡ p ∷ [] → b.poses.items ≡ q ∷ [] → all_poses machines ≡ (0, p) ∷ (1, q) ∷ []
two_poses a b machines p q is first second = ap all_poses is ∙ rw (first, second) refl

rows_of_plans : (d : Document) (a b : MachineRow) (x y : ZoneRow) (n : Named) → HasTwo d a b x y → IsNamedPlanOf d n → PlansHaveRows d a b x y n
rows_of_plans d a b x y n has is = record {
  count = is.machines ∙ ap length has.machines;
  machines = is.named_machines ∙ ap machine_names has.machines;
  zone_names = is.named_zones ∙ ap zone_names has.zones;
  space_names = is.named_spaces ∙ ap space_names has.zones;
  place_names = is.named_places ∙ ap place_names has.machines ∙ ap (λ z. map string_bytes a.places.items ++ z) (append-nil (map string_bytes b.places.items));
  pose_names = is.named_poses ∙ ap pose_names has.machines ∙ ap (λ z. names_in a.poses.items ++ z) (append-nil (names_in b.poses.items));
  place_rows = is.places ∙ ap place_rows has.machines ∙ ap (λ z. ends_in 0 a ++ z) (append-nil (ends_in 1 b));
  zones = λ first second zones. two (IsZoneOf n.machines n.places) d.zones.items n.plan.zones x y first second is.zones has.zones zones;
  zone_lost = λ zone. lost (IsZoneOf n.machines n.places) d.zones.items n.plan.zones x y zone is.zones has.zones;
  poses = λ p q first second pa qb poses. two (IsPoseOf n.zones) (all_poses d.machines.items) n.plan.poses (0, p) (1, q) first second is.poses (two_poses a b d.machines.items p q has.machines pa qb) poses;
  pose_lost = λ p q pose pa qb. lost (IsPoseOf n.zones) (all_poses d.machines.items) n.plan.poses (0, p) (1, q) pose is.poses (two_poses a b d.machines.items p q has.machines pa qb);
}

programs_of_plans : (d : Document) (a b : MachineRow) (x y : ZoneRow) (p : ProgrammedPlan) → HasTwo d a b x y → IsPlanOf d p → PlansHavePrograms a b p
programs_of_plans d a b x y p has is = record {
  steps = λ first second steps. two (IsProgramOf p.named p.motors) (numbered d.machines.items) (map (λ s. s.items) p.steps.items) (0, a) (1, b) first.items second.items is.steps (ap numbered has.machines) (ap (map (λ s. s.items)) steps);
  programs = λ first second steps. is.programs ∙ ap (map (λ s. calls_of s.items)) steps;
  program_lost = λ steps one. lost (IsProgramOf p.named p.motors) (numbered d.machines.items) (map (λ s. s.items) p.steps.items) (0, a) (1, b) steps.items is.steps (ap numbered has.machines) (ap (map (λ s. s.items)) one);
}

pub plan_rows : PlansSayRows
plan_rows = record {
  names = names_of_plans;
  rows = rows_of_plans;
  programs = programs_of_plans;
  named = λ d p is. is.named;
}

-- ---- laws

never_done : RefusedLinesAreNeverDone → (s : State) (sound : IsSound lift_table s) → NeverDone s sound
never_done law s sound = record {
  claim = law lift_table 1 (ClaimCall 1) refl s sound;
  give = law lift_table 1 (Give 1) refl s sound;
  yield = law lift_table 1 (YieldCall 1) refl s sound;
  take = law lift_table 1 (TakeCall 1) refl s sound;
  release = law lift_table 1 (ReleaseCall 1) refl s sound;
  pose = law lift_table 1 (SetPose 4) refl s sound;
}

never_theirs : AcceptedLinesAreTheirs → (s : State) (sound : IsSound lift_table s) → NeverTheirs s sound
never_theirs law s sound = record {
  claim = (law lift_table 2 (ClaimCall 1) refl refl s sound).0;
  give = (law lift_table 2 (Give 1) refl refl s sound).0;
  yield = (law lift_table 2 (YieldCall 1) refl refl s sound).0;
  take = (law lift_table 2 (TakeCall 1) refl refl s sound).0;
  release = (law lift_table 2 (ReleaseCall 1) refl refl s sound).0;
  pose = (law lift_table 0 (SetPose 4) refl refl s sound).1;
  pose_of_party = (law lift_table 0 (SetPose 4) refl refl s sound).0;
}

pub lift_rows : LawsOfLift
lift_rows = record {
  refused = never_done;
  accepted = never_theirs;
  words = λ law d n is. word_rows n (law d n is);
}
