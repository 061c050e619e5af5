-- The text of a call has the words of which the call is read.
use Rattle.std.proofs.Common.{◌≡◌, ◌∙◌, ◌⊎◌, inl, inr, ℕ, zero, suc, Bool, true, false, ◌&&◌, List, length, Option, Some, None, option_map, refl, sym, ap}
use Rattle.std.proofs.lemmas.Slice.Eq.{bytes_eq-Decides}
use Rattle.std.specs.Bool.{then_some}
use Rattle.std.specs.Option.{option_or}
use Rattle.std.specs.Str.{bytes_eq}
use Rattle.plan_types.specs.Below.{first_below}
use Rattle.plan_types.specs.declared.call.Call.{Call}
use Rattle.plan_types.specs.declared.call.Call.TheVariants as call
use Rattle.plan_text.specs.Names.{Text, name_in, number_if, number_in}
use Rattle.plan_text.specs.Named.{Named}
use Rattle.plan_text.specs.Calls.{call_of, call_text, own_pose, pose_if, pose_named, words}
use Rattle.plan_text.specs.declared.calls.Verb.{Verb}
use Rattle.plan_text.specs.declared.calls.Verb.TheVariants.{Claim, Give, Yield, Take, Release, Inquire, Pose, Advance}

or_cases : (a b : Option ℕ) (v : ℕ) → option_or a b ≡ Some v → (a ≡ Some v) ⊎ (b ≡ Some v)
or_cases None b v e = inr e
or_cases (Some w) b v e = inl e

-- what is found below a number is that of some number
pub found : (f : ℕ → Option ℕ) (n v : ℕ) → first_below f n ≡ Some v → (k : ℕ) × (f k ≡ Some v)
found f zero v e = absurd (cc)
found f (suc n) v e = elim (or_cases (first_below f n) (f n) v e) [ inl h ↦ found f n v h | inr h ↦ (n, h) ]

pub passed : (test : Bool) (k v : ℕ) → then_some test k ≡ Some v → (test ≡ true) × (k ≡ v)
passed true k v e = (refl, cc)
passed false k v e = absurd (cc)

second : (a b : Bool) → (a && b) ≡ true → b ≡ true
second true b e = e
second false b e = absurd (cc)

same_name : (names : List Text) (name : Text) (k v : ℕ) → bytes_eq (name_in names k) name ≡ true → k ≡ v → name_in names v ≡ name
same_name names name k v e is = ap (name_in names) (sym is) ∙ (bytes_eq-Decides (name_in names k) name).0 e

-- the name of the number that a name has
pub name_of_number : (names : List Text) (name : Text) (v : ℕ) → number_in names name ≡ Some v → name_in names v ≡ name
name_of_number names name v e =
    let h = found (number_if names name) (length names) v e in
    let p = passed (bytes_eq (name_in names h.0) name) h.0 v h.1 in
    same_name names name h.0 v p.0 p.1

own_name : (n : Named) (machine : ℕ) (name : Text) (v : ℕ) → own_pose n machine name ≡ Some v → name_in n.poses v ≡ name
own_name n machine name v e =
    let h = found (pose_if n machine name) (length n.poses) v e in
    let p = passed _ h.0 v h.1 in
    same_name n.poses name h.0 v (second _ (bytes_eq (name_in n.poses h.0) name) p.0) p.1

pose_name : (n : Named) (machine : ℕ) (name : Text) (v : ℕ) → pose_named n machine name ≡ Some v → name_in n.poses v ≡ name
pose_name n machine name v e =
    elim (or_cases (own_pose n machine name) (number_in n.poses name) v e) [
      | inl h ↦ own_name n machine name v h
      | inr h ↦ name_of_number n.poses name v h
    ]

mapped : (make : ℕ → Call) (o : Option ℕ) (c : Call) → option_map make o ≡ Some c → (v : ℕ) × (o ≡ Some v) × (make v ≡ c)
mapped make None c e = absurd (cc)
mapped make (Some v) c e = (v, refl, cc)

about_zone : (n : Named) (verb : Verb) (name : Text) (c : Call) (make : ℕ → Call) → ((z : ℕ) → call_text n (make z) ≡ words verb (name_in n.zones z)) → option_map make (number_in n.zones name) ≡ Some c → call_text n c ≡ words verb name
about_zone n verb name c make tells e =
    let h = mapped make (number_in n.zones name) c e in
    ap (call_text n) (sym h.2) ∙ tells h.0 ∙ ap (words verb) (name_of_number n.zones name h.0 h.1)

about_place : (n : Named) (name : Text) (c : Call) → option_map call.Advance (number_in n.places name) ≡ Some c → call_text n c ≡ words Advance name
about_place n name c e =
    let h = mapped call.Advance (number_in n.places name) c e in
    ap (call_text n) (sym h.2) ∙ ap (words Advance) (name_of_number n.places name h.0 h.1)

pub told_as_read : (n : Named) (machine : ℕ) (verb : Verb) (name : Text) (c : Call) → call_of n machine verb name ≡ Some c → call_text n c ≡ words verb name
told_as_read n machine Claim name c e = about_zone n Claim name c call.Claim (λ z. refl) e
told_as_read n machine Give name c e = about_zone n Give name c call.Give (λ z. refl) e
told_as_read n machine Yield name c e = about_zone n Yield name c call.Yield (λ z. refl) e
told_as_read n machine Take name c e = about_zone n Take name c call.Take (λ z. refl) e
told_as_read n machine Release name c e = about_zone n Release name c call.Release (λ z. refl) e
told_as_read n machine Inquire name c e = about_zone n Inquire name c call.Inquire (λ z. refl) e
told_as_read n machine Pose name c e =
    let h = mapped call.SetPose (pose_named n machine name) c e in
    ap (call_text n) (sym h.2) ∙ ap (words Pose) (pose_name n machine name h.0 h.1)
told_as_read n machine Advance name c e = about_place n name c e
