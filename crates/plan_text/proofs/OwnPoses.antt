-- A machine means one of its own poses, if any has the name. Each name has a number, and that number has the name.
use Rattle.std.proofs.Common.{◌≡◌, ◌≢◌, ◌∙◌, codes, List, ℕ, ◌<◌, Bool, true, false, ◌&&◌, length, Option, Some, None, option_map, is_some, IsTrue, refl, sym, ap}
use Rattle.std.proofs.lemmas.Bool.{eq-eqb, eqb-true}
use Rattle.std.proofs.lemmas.Slice.Eq.{bytes_eq-Decides}
use Rattle.std.specs.Option.{option_or}
use Rattle.std.specs.Str.{bytes_eq}
use Rattle.plan_types.specs.Table.{machine_of}
use Rattle.plan_types.specs.declared.call.Call.TheVariants.{SetPose}
use Rattle.plan_types.proofs.lemmas.Below.{first_below_none}
use Rattle.plan_text.specs.Laws.{NamesHaveNumbers, OthersHaveNames}
use Rattle.plan_text.specs.Names.{Text, name_in, number_if, number_in}
use Rattle.plan_text.specs.Named.{Named}
use Rattle.plan_text.specs.Calls.{call_of, caller_of, own_pose, pose_if}
use Rattle.plan_text.specs.declared.calls.Verb.TheVariants.{Pose}
use Rattle.plan_text.proofs.CallTexts.{found, passed}

pub comes_first : (n : Named) (machine pose : ℕ) (name : Text) → own_pose n machine name ≡ Some pose → call_of n machine Pose name ≡ Some (SetPose pose)
comes_first n machine pose name e = ap (λ o. option_map SetPose (option_or o (number_in n.poses name))) e

first : (a b : Bool) → (a && b) ≡ true → a ≡ true
first true b e = refl
first false b e = absurd (cc)

pub is_own : (n : Named) (machine pose : ℕ) (name : Text) → own_pose n machine name ≡ Some pose → machine_of n.plan pose ≡ machine
is_own n machine pose name e =
    let h = found (pose_if n machine name) (length n.poses) pose e in
    let p = passed _ h.0 pose h.1 in
    ap (machine_of n.plan) (sym p.1)
    ∙ eqb-true (machine_of n.plan h.0) machine (first _ (bytes_eq (name_in n.poses h.0) name) p.0)

here : (n : Named) (machine pose : ℕ) → machine_of n.plan pose ≡ machine → pose_if n machine (name_in n.poses pose) pose ≡ Some pose
here n machine pose own =
    let same : bytes_eq (name_in n.poses pose) (name_in n.poses pose) ≡ true = (bytes_eq-Decides (name_in n.poses pose) (name_in n.poses pose)).1 refl in
    rw (eq-eqb (machine_of n.plan pose) machine own, same) refl

is_there : (o : Option ℕ) → (o ≡ None → ⊥) → IsTrue (is_some o)
is_there None there = absurd (there refl)
is_there (Some v) there = refl

pub is_found : (n : Named) (machine pose : ℕ) → pose < length n.poses → machine_of n.plan pose ≡ machine → IsTrue (is_some (own_pose n machine (name_in n.poses pose)))
is_found n machine pose l own =
    is_there _ (λ none.
    let missed = first_below_none (pose_if n machine (name_in n.poses pose)) (length n.poses) none pose l in
    let e : Some pose ≡ None = sym (here n machine pose own) ∙ missed in
    cc)

-- ---- others

-- another name is no word for the watch
calls_by_name : (n : Named) (name : Text) → name ≢ codes "watch" → caller_of n name ≡ number_in n.machines name
calls_by_name n name other = by (bytes_eq name (codes "watch")) refl
  where
    by : (b : Bool) → bytes_eq name (codes "watch") ≡ b → caller_of n name ≡ number_in n.machines name
    by true is = absurd (other ((bytes_eq-Decides name (codes "watch")).0 is))
    by false is = rw is refl

pub others_named : (n : Named) (machine pose : ℕ) (name : Text) → OthersHaveNames n machine pose name
others_named n machine pose name = record {
  watch_calls = refl;
  machine_calls = calls_by_name n name;
  other_pose = λ none other. ap (λ o. option_map SetPose (option_or o (number_in n.poses name))) none ∙ ap (option_map SetPose) other;
}

-- ---- numbers

of_it : (names : List Text) (name : Text) (number : ℕ) → number_in names name ≡ Some number → name_in names number ≡ name
of_it names name number e =
    let h = found (number_if names name) (length names) number e in
    let p = passed _ h.0 number h.1 in
    ap (name_in names) (sym p.1) ∙ (bytes_eq-Decides (name_in names h.0) name).0 p.0

own_number : (names : List Text) (number : ℕ) → number_if names (name_in names number) number ≡ Some number
own_number names number =
    let same : bytes_eq (name_in names number) (name_in names number) ≡ true = (bytes_eq-Decides (name_in names number) (name_in names number)).1 refl in
    rw same refl

pub names_numbered : (names : List Text) (name : Text) (number : ℕ) → NamesHaveNumbers names name number
names_numbered names name number = record {
  of_it = of_it names name number;
  found = λ l. is_there _ (λ none.
      let missed = first_below_none (number_if names (name_in names number)) (length names) none number l in
      let e : Some number ≡ None = sym (own_number names number) ∙ missed in
      cc);
}
