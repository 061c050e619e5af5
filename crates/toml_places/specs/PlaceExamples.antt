-- Steps and places by example: which steps are the same, which begin others, which place is found, and what is said of
-- the nearest one and of one around a byte.
use Rattle.std.specs.Prelude.{◌≡◌, ◌<◌, ◌≤◌, ℕ, true, false, List, [], ◌∷◌, length, take, Some, None, codes}
use Rattle.std.specs.Prelude.{String, string_bytes}
use Rattle.std.specs.Borrow.{Bor}
use Rattle.std.specs.declared.alloc.Global.{Global}
use Rattle.toml_places.specs.declared.places.Step.{Step}
use Rattle.toml_places.specs.declared.places.Step.TheVariants as sought
use Rattle.toml_places.specs.declared.places.OwnedStep.TheVariants as own
use Rattle.toml_places.specs.declared.places.Place.{Place}
use Rattle.toml_places.specs.Around.{IsAround}
use Rattle.toml_places.specs.Leading.{IsNearest, NoMoreLead, begin, leads_to, place_of, same_step}

pub record StepsAreMet : Type 0 where
  pub item : same_step (sought.Item 3) (own.Item 3) ≡ true
  pub other_item : same_step (sought.Item 3) (own.Item 4) ≡ false
  pub first_item : same_step (sought.Item 0) (own.Item 0) ≡ true
  pub item_before : same_step (sought.Item 4) (own.Item 3) ≡ false
  pub key : (key : Bor (List ℕ)) (name : String Global) → key.now ≡ codes "ab" → string_bytes name ≡ codes "ab"
      → same_step (sought.Key key) (own.Key name) ≡ true
  pub other_key : (key : Bor (List ℕ)) (name : String Global) → key.now ≡ codes "ab"
      → string_bytes name ≡ codes "ac" → same_step (sought.Key key) (own.Key name) ≡ false
  pub longer_key : (key : Bor (List ℕ)) (name : String Global) → key.now ≡ codes "a"
      → string_bytes name ≡ codes "ab" → same_step (sought.Key key) (own.Key name) ≡ false
  pub shorter_key : (key : Bor (List ℕ)) (name : String Global) → key.now ≡ codes "ab"
      → string_bytes name ≡ codes "a" → same_step (sought.Key key) (own.Key name) ≡ false
  pub empty_key : (key : Bor (List ℕ)) (name : String Global) → key.now ≡ [] → string_bytes name ≡ []
      → same_step (sought.Key key) (own.Key name) ≡ true
  pub key_for_item : (key : Bor (List ℕ)) → same_step (sought.Key key) (own.Item 0) ≡ false
  pub item_for_key : (name : String Global) → same_step (sought.Item 0) (own.Key name) ≡ false
  pub nothing : begin [] [] ≡ true
  pub none_sought : begin [] (own.Item 1 ∷ own.Item 2 ∷ []) ≡ true
  pub too_many : begin (sought.Item 1 ∷ sought.Item 2 ∷ []) (own.Item 1 ∷ []) ≡ false
  pub any_for_none : begin (sought.Item 1 ∷ []) [] ≡ false
  pub all_three : begin (sought.Item 1 ∷ sought.Item 2 ∷ sought.Item 3 ∷ [])
      (own.Item 1 ∷ own.Item 2 ∷ own.Item 3 ∷ []) ≡ true
  pub other_third : begin (sought.Item 1 ∷ sought.Item 2 ∷ sought.Item 4 ∷ [])
      (own.Item 1 ∷ own.Item 2 ∷ own.Item 3 ∷ []) ≡ false
  pub first_two : begin (sought.Item 1 ∷ sought.Item 2 ∷ []) (own.Item 1 ∷ own.Item 2 ∷ own.Item 3 ∷ []) ≡ true
  pub other_first : begin (sought.Item 4 ∷ sought.Item 2 ∷ []) (own.Item 1 ∷ own.Item 2 ∷ []) ≡ false
  pub other_second : begin (sought.Item 1 ∷ sought.Item 4 ∷ []) (own.Item 1 ∷ own.Item 2 ∷ []) ≡ false
  -- a place is found by its own steps
  pub own_steps : (place : Place) (steps : List Step) → leads_to steps place ≡ begin steps place.steps.items
  pub found : (first second : Place) (steps : List Step) → leads_to steps first ≡ true
      → place_of (first ∷ second ∷ []) steps ≡ Some first
  pub found_later : (first second : Place) (steps : List Step) → leads_to steps first ≡ false
      → leads_to steps second ≡ true → place_of (first ∷ second ∷ []) steps ≡ Some second
  pub not_found : (steps : List Step) → place_of [] steps ≡ None
  pub found_last : (first second third : Place) (steps : List Step) → leads_to steps first ≡ false
      → leads_to steps second ≡ false → leads_to steps third ≡ true
      → place_of (first ∷ second ∷ third ∷ []) steps ≡ Some third
  pub found_nowhere : (first second : Place) (steps : List Step) → leads_to steps first ≡ false
      → leads_to steps second ≡ false → place_of (first ∷ second ∷ []) steps ≡ None
  -- the nearest place is that of at least one step and of the most that have one
  pub nearest : (places : List Place) (steps : List Step) (place : Place) → IsNearest places steps place
      → (n : ℕ) × (0 < n) × (n ≤ length steps) × (place_of places (take n steps) ≡ Some place)
      × ((more : ℕ) → n < more → more ≤ length steps → place_of places (take more steps) ≡ None)
  pub no_more : (n more : ℕ) (places : List Place) (steps : List Step) → NoMoreLead n places steps → n < more
      → more ≤ length steps → place_of places (take more steps) ≡ None
  pub is_nearest : (n : ℕ) (places : List Place) (steps : List Step) (place : Place) → 0 < n → n ≤ length steps
      → place_of places (take n steps) ≡ Some place → NoMoreLead n places steps → IsNearest places steps place
  pub at_or_after_value : (before : ℕ) (place : Place) → IsAround before place → place.value ≤ before
  pub left_open : (before : ℕ) (place : Place) → place.value ≤ before → place.end ≡ None → IsAround before place
  pub is_around : (before end : ℕ) (place : Place) → place.value ≤ before → place.end ≡ Some end → before < end
      → IsAround before place
  pub around : (before end : ℕ) (place : Place) → IsAround before place → place.end ≡ Some end
      → (place.value ≤ before) × (before < end)
