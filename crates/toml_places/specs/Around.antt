-- In which pair's value a byte is.
use Rattle.std.specs.Prelude.{ℕ, ◌<◌, ◌≤◌, IfSome}
use Rattle.toml_places.specs.declared.places.Place.{Place}

-- the byte at this offset is in the value of the place's pair, or that is left open
abbrev pub IsAround : ℕ → Place → Type 0
IsAround before place = (place.value ≤ before) × IfSome place.end (λ end. before < end)
