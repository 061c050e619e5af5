-- Which places steps lead to.
use Rattle.std.specs.Prelude.{ℕ, ◌≡◌, ◌<◌, ◌≤◌, ◌==◌, ◌&&◌, Bool, true, false, List, [], ◌∷◌, length, take, find}
use Rattle.std.specs.Prelude.{Option, Some, None, string_bytes}
use Rattle.std.specs.Str.{bytes_eq}
use Rattle.toml_places.specs.declared.places.Step.{Step}
use Rattle.toml_places.specs.declared.places.Step.TheVariants as sought
use Rattle.toml_places.specs.declared.places.OwnedStep.{OwnedStep}
use Rattle.toml_places.specs.declared.places.OwnedStep.TheVariants as own
use Rattle.toml_places.specs.declared.places.Place.{Place}

-- both are steps to the same key, or to the same item
abbrev pub same_step : Step → OwnedStep → Bool
same_step (sought.Key key) (own.Key name) = bytes_eq (string_bytes name) key.now
same_step (sought.Item number) (own.Item item) = item == number
same_step _ _ = false

-- the steps to a place begin with these
abbrev pub begin : List Step → List OwnedStep → Bool
begin [] own = true
begin (step ∷ steps) [] = false
begin (step ∷ steps) (first ∷ own) = same_step step first && begin steps own

-- these steps lead to the place, or to a value that it is in
abbrev pub leads_to : List Step → Place → Bool
leads_to steps place = begin steps place.steps.items

-- the first place to which these steps lead, or that is in what they lead to
abbrev pub place_of : List Place → List Step → Option Place
place_of places steps = find (leads_to steps) places

-- no more than n of these steps lead to a place
abbrev pub NoMoreLead : ℕ → List Place → List Step → Type 0
NoMoreLead n places steps = (more : ℕ) → n < more → more ≤ length steps → place_of places (take more steps) ≡ None

-- it is the place of the most first steps that have one
abbrev pub IsNearest : List Place → List Step → Place → Type 0
IsNearest places steps place =
    (n : ℕ) × (0 < n) × (n ≤ length steps) × (place_of places (take n steps) ≡ Some place) × NoMoreLead n places steps
