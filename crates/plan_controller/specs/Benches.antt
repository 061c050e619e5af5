-- What a bench stores, what its caller sees of it, and what a call does to it.
use Rattle.std.specs.Prelude.{◌≡◌, ℕ, List, [], ◌∷◌, ◌++◌, Option, Some, None}
use Rattle.std.specs.Coded.{×_prop, Unit-prop}
use Rattle.std.proofs.Props.{props}
use Rattle.plan_types.specs.declared.call.Call.{Call}
use Rattle.plan_types.specs.declared.answer.Answer.{Answer}
use Rattle.plan_types.specs.declared.answer.Event.{Event}
use Rattle.plan_types.specs.Table.{PlanTable}
use Rattle.plan_types.specs.Plan.{IsPlan}
use Rattle.plan_rules.specs.declared.state.State.{State}
use Rattle.plan_rules.specs.Sound.{IsSound}
use Rattle.plan_rules.specs.Reply.{reply, next}
use Rattle.plan_rules.specs.History.{after, IsLegal}
use Rattle.plan_controller.specs.Seen.{event}

-- the history is legal, by a plan, begins in a sound opening, and leads to the state
pub record IsHistory (t : PlanTable) (opening state : State) (history : List Event) : Type 0 where
  pub plan : IsPlan t
  pub sound : IsSound t opening
  pub legal : IsLegal t opening history
  pub reached : state ≡ after t opening history

answer_prop : (a b : Answer) → IsProp (a ≡ b)
answer_prop a b = hlevel props

pub IsPlan-prop : (t : PlanTable) → IsProp (IsPlan t)
IsPlan-prop t = hlevel props

pub IsSound-prop : (t : PlanTable) (s : State) → IsProp (IsSound t s)
IsSound-prop t s = hlevel props

pub IsLegal-prop : (t : PlanTable) (s : State) (h : List Event) → IsProp (IsLegal t s h)
IsLegal-prop t s [] = Unit-prop
IsLegal-prop t s (e ∷ h) =
    ×_prop (answer_prop e.answer (reply t s e.machine e.call)) (IsLegal-prop t (next t s e.machine e.call) h)

-- a plan, the state that the bench opened with, the one now, the history between them, and who is seated
pub record Desk : Type 0 where
  pub table : PlanTable
  pub opening : State
  pub state : State
  pub history : List Event
  pub machine : ℕ

-- the state answers the call and makes its change, and the event is added to the history; or memory ran out, and
-- nothing changes
abbrev pub BenchAsks : Desk → Call → Option Answer → Desk → Type 0
BenchAsks b c (Some a) d =
    (a ≡ reply b.table b.state b.machine c)
    × (d ≡ record b {
      state = next b.table b.state b.machine c;
      history = b.history ++ event b.machine c a ∷ [];
    })
BenchAsks b c None d = d ≡ b
