-- What an audit of journals says: one legal history explains them.
use Rattle.std.specs.Prelude.{◌≡◌, ◌≤◌, ℕ, false, List, [], ◌∷◌, map, get_or, Option, Some, None, ⊤}
use Rattle.std.specs.Global.{Vec}
use Rattle.plan_types.specs.declared.answer.Event.{Event}
use Rattle.plan_types.specs.Table.{PlanTable, watch}
use Rattle.plan_rules.specs.declared.state.State.{State}
use Rattle.plan_rules.specs.History.{after, IsLegal, is_done}
use Rattle.plan_workers.specs.declared.journal.PlanEntry.{PlanEntry}
use Rattle.plan_workers.specs.Journals.{journal_of}

-- the journal of each machine, by its number; past the last one they are empty
abbrev pub Journals : Type 0
Journals = ℕ → List PlanEntry

abbrev pub journals_in : List (Vec PlanEntry) → Journals
journals_in journals m = get_or (map (λ j. j.items) journals) m []

-- a state is the given end, if one is given
abbrev pub EndsIn : State → Option State → Type 0
EndsIn reached None = ⊤
EndsIn reached (Some end) = reached ≡ end

-- each event is of a machine, or of the watch
abbrev pub AreByCallers : List Event → Type 0
AreByCallers [] = ⊤
AreByCallers (e ∷ history) = (e.machine ≤ watch) × AreByCallers history

-- A legal history from the start, of machines and the watch, that leads to the end. Each machine's journal has the
-- machine's events, in order, each with the stamp after it
pub record IsAudited (t : PlanTable) (start : State) (journals : Journals) (end : Option State) (history : List Event)
    : Type 0 where
  pub legal : IsLegal t start history
  pub callers : AreByCallers history
  pub own : (m : ℕ) → journal_of start.stamp history m ≡ journals m
  pub ends : EndsIn (after t start history) end

-- there is no such history
abbrev pub HasNoHistory : PlanTable → State → Journals → Option State → Type 0
HasNoHistory t start journals end = (history : List Event) → ¬ IsAudited t start journals end history

-- Of two events, the one right after the other, neither of them done, the first is of no greater machine. So at one
-- stamp, after the done one, events come by machine
abbrev pub GoesBefore : Event → List Event → Type 0
GoesBefore e [] = ⊤
GoesBefore e (f ∷ history) = is_done e ≡ false → is_done f ≡ false → e.machine ≤ f.machine

abbrev pub AreInOrder : List Event → Type 0
AreInOrder [] = ⊤
AreInOrder (e ∷ history) = GoesBefore e history × AreInOrder history
