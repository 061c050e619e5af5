-- What rows say of zones: each has a zone's name, and a word for what is said of it.
use Rattle.std.specs.Prelude.{◌≡◌, ℕ, ◌<◌, Bool, ◌&&◌, nat_eq, List, get_or, string_bytes, Option, Some, None, is_some}
use Rattle.std.specs.Prelude.{IsTrue, if◌then◌else◌}
use Rattle.std.specs.List.{filter_map, last_or, list_all}
use Rattle.std.specs.Option.{option_eq}
use Rattle.plan_text.specs.Names.{Text, number_in}
use Rattle.plan_document.specs.declared.document.PostureRow.{PostureRow}

-- a row is about a zone by its name, and its word means something
abbrev pub gives_zone : {X : Type 0} → (Text → Option X) → List Text → PostureRow → Bool
gives_zone meaning zones row =
    is_some (number_in zones (string_bytes row.zone)) && is_some (meaning (string_bytes row.posture))

abbrev pub is_about : List Text → ℕ → PostureRow → Bool
is_about zones zone row = option_eq nat_eq (number_in zones (string_bytes row.zone)) (Some zone)

-- what a row says of a zone: what its word means, if the row is about the zone
abbrev pub given_by : {X : Type 0} → (Text → Option X) → List Text → ℕ → PostureRow → Option X
given_by meaning zones zone row = if is_about zones zone row then meaning (string_bytes row.posture) else None

-- what rows say of a zone: what the last row about it does
abbrev pub given : {X : Type 0} → (Text → Option X) → List Text → List PostureRow → ℕ → Option X
given meaning zones rows zone = last_or None (filter_map (given_by meaning zones zone) rows)

-- of each zone below a bound the last row about it is what rows give it
pub record AreGivenBelow {X : Type 0} (bound : ℕ) (meaning : Text → Option X) (zones : List Text)
    (rows : List PostureRow) (gives : List (Option X)) : Type 0 where
  pub known : IsTrue (list_all (gives_zone meaning zones) rows)
  pub last_given : (zone : ℕ) → zone < bound → get_or gives zone None ≡ given meaning zones rows zone

-- of the zones of a plan
abbrev pub AreGiven : {X : Type 0} → (Text → Option X) → List Text → List PostureRow → List (Option X) → Type 0
AreGiven meaning zones rows gives = AreGivenBelow 10 meaning zones rows gives
