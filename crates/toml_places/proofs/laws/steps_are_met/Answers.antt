use Rattle.std.proofs.Common.{◌≡◌, ◌<◌, ◌≤◌, ℕ, List, [], ◌∷◌, true, false, Some, None, refl, subst, sym}
use Rattle.std.specs.Prelude.{Bool, IfSome, String, string_bytes, codes}
use Rattle.std.specs.Borrow.{Bor}
use Rattle.std.specs.Str.{bytes_eq}
use Rattle.std.specs.declared.alloc.Global.{Global}
use Rattle.toml_places.specs.declared.places.Step.TheVariants as sought
use Rattle.toml_places.specs.declared.places.OwnedStep.TheVariants as own
use Rattle.toml_places.specs.declared.places.Place.{Place}
use Rattle.toml_places.specs.declared.places.Step.{Step}
use Rattle.toml_places.specs.Around.{IsAround}
use Rattle.toml_places.specs.Leading.{leads_to, place_of, same_step}
use Rattle.toml_places.proofs.laws.steps_are_met.Goals as goal

same : (key : Bor (List ℕ)) (name : String Global) (a b : List ℕ) (is : Bool) → key.now ≡ a → string_bytes name ≡ b → bytes_eq b a ≡ is → same_step (sought.Key key) (own.Key name) ≡ is
same key name a b is e f by = rw (e, f) by

found : (first second : Place) (steps : List Step) → leads_to steps first ≡ true → place_of (first ∷ second ∷ []) steps ≡ Some first
found first second steps e = rw e refl

found_later : (first second : Place) (steps : List Step) → leads_to steps first ≡ false → leads_to steps second ≡ true → place_of (first ∷ second ∷ []) steps ≡ Some second
found_later first second steps e f = rw (e, f) refl

found_last : (first second third : Place) (steps : List Step) → leads_to steps first ≡ false → leads_to steps second ≡ false → leads_to steps third ≡ true → place_of (first ∷ second ∷ third ∷ []) steps ≡ Some third
found_last first second third steps e f g = rw (e, f, g) refl

found_nowhere : (first second : Place) (steps : List Step) → leads_to steps first ≡ false → leads_to steps second ≡ false → place_of (first ∷ second ∷ []) steps ≡ None
found_nowhere first second steps e f = rw (e, f) refl

left_open : (before : ℕ) (place : Place) → place.value ≤ before → place.end ≡ None → IsAround before place
left_open before place from e = (from, subst (λ o. IfSome o (λ n. before < n)) (sym e) tt)

is_around : (before end : ℕ) (place : Place) → place.value ≤ before → place.end ≡ Some end → before < end → IsAround before place
is_around before end place from e until = (from, subst (λ o. IfSome o (λ n. before < n)) (sym e) until)

around : (before end : ℕ) (place : Place) → IsAround before place → place.end ≡ Some end → (place.value ≤ before) × (before < end)
around before end place is e = (is.0, subst (λ o. IfSome o (λ n. before < n)) e is.1)

pub returns : goal.returns
returns c = record {
  item = refl;
  other_item = refl;
  first_item = refl;
  item_before = refl;
  key = λ key name e f. same key name (codes "ab") (codes "ab") true e f refl;
  other_key = λ key name e f. same key name (codes "ab") (codes "ac") false e f refl;
  longer_key = λ key name e f. same key name (codes "a") (codes "ab") false e f refl;
  shorter_key = λ key name e f. same key name (codes "ab") (codes "a") false e f refl;
  empty_key = λ key name e f. same key name [] [] true e f refl;
  key_for_item = λ key. refl;
  item_for_key = λ name. refl;
  nothing = refl;
  none_sought = refl;
  too_many = refl;
  any_for_none = refl;
  all_three = refl;
  other_third = refl;
  first_two = refl;
  other_first = refl;
  other_second = refl;
  own_steps = λ place steps. refl;
  found = found;
  found_later = found_later;
  not_found = λ steps. refl;
  found_last = found_last;
  found_nowhere = found_nowhere;
  nearest = λ places steps place is. is;
  no_more = λ n more places steps none. none more;
  is_nearest = λ n places steps place some within is none. (n, some, within, is, none);
  at_or_after_value = λ before place is. is.0;
  left_open = left_open;
  is_around = is_around;
  around = around;
}
