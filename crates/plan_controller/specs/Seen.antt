-- What a caller has seen of the history after a call.
use Rattle.std.specs.Prelude.{◌≡◌, ℕ, List, [], ◌∷◌, ◌++◌, Option, Some, None}
use Rattle.plan_types.specs.declared.call.Call.{Call}
use Rattle.plan_types.specs.declared.answer.Answer.{Answer}
use Rattle.plan_types.specs.declared.answer.Event.{Event}
use Rattle.plan_rules.specs.History.{own_events}

abbrev pub event : ℕ → Call → Answer → Event
event m c a = record { machine = m; call = c; answer = a }

-- the caller sees what it saw, and then events of others alone
pub record SeesOthers (m : ℕ) (before now : List Event) : Type 0 where
  pub others : List Event
  pub split : now ≡ before ++ others
  pub none_own : own_events others m ≡ []

-- a call was answered: after that comes its event, as the last
pub record SeesAnswer (m : ℕ) (c : Call) (a : Answer) (before now : List Event) : Type 0 where
  pub point : List Event
  pub sees : SeesOthers m before point
  pub ends : now ≡ point ++ event m c a ∷ []

abbrev pub SeenAfter : ℕ → Call → Option Answer → List Event → List Event → Type 0
SeenAfter m c (Some a) before now = SeesAnswer m c a before now
SeenAfter m c None before now = SeesOthers m before now
