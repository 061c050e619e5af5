-- What a passed audit says: a legal history explains the journals.
use Rattle.std.specs.Prelude.{◌≡◌, List, map, Option, Some, None, ⊤}
use Rattle.cell_rules.specs.Types.{Machine, Event, Entry}
use Rattle.cell_rules.specs.ModelState.{ModelState}
use Rattle.cell_rules.specs.History.{after, IsLegal, own_events}
use Rattle.cell_rules.specs.Journal.{noted, event_by}

-- a state is the given end, if one is given
abbrev pub EndsIn : ModelState → Option ModelState → Type 0
EndsIn reached None = ⊤
EndsIn reached (Some end) = reached ≡ end

-- a legal history that leads to the end; each machine's journal has the machine's events, with the stamp after each
pub record IsAudited (start : ModelState) (journals : Machine → List Entry) (end : Option ModelState)
    (history : List Event) : Type 0 where
  pub legal : IsLegal start history
  pub own : (m : Machine) → own_events history m ≡ map (event_by m) (journals m)
  pub noted : (m : Machine) → noted start history m ≡ journals m
  pub ends : EndsIn (after start history) end

-- there is no such history
abbrev pub HasNoHistory : ModelState → (Machine → List Entry) → Option ModelState → Type 0
HasNoHistory start journals end = (history : List Event) → ¬ IsAudited start journals end history
