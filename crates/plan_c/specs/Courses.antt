-- How a machine goes on in its program by turns, along the history that leads to the word.
use Rattle.std.specs.Prelude.{◌≡◌, ◌⊎◌, ℕ, List, [], ◌∷◌, ◌++◌, Option}
use Rattle.plan_types.specs.declared.call.Call.{Call}
use Rattle.plan_types.specs.declared.answer.Event.{Event}
use Rattle.plan_types.specs.Table.{PlanTable}
use Rattle.plan_types.specs.Plan.{IsPlan}
use Rattle.plan_rules.specs.declared.state.State.{State}
use Rattle.plan_rules.specs.Sound.{IsSound}
use Rattle.plan_rules.specs.Reply.{reply}
use Rattle.plan_rules.specs.History.{after, IsLegal}
use Rattle.plan_word.specs.Packed.{packed}
use Rattle.plan_drives.specs.Course.{IsAt}
use Rattle.plan_controller.specs.Seen.{event}
use Rattle.plan_controller.specs.Turns.{Control, program_in, ArePermitted}
use Rattle.plan_c.specs.Turning.{IsTurn}
use Rattle.plan_c.specs.declared.turn.Turned.{Turned}

abbrev pub InPlace : PlanTable → State → List Event → Control → Type 0
InPlace t opening seen c = IsAt t opening seen c.machine (program_in c) c.place

-- A turn adds one call to the history at most. That leads to the word after it; the machine is at its place by it; and
-- where the program runs only what it may, each motor that is on is permitted.
pub record GoesOn (t : PlanTable) (opening : State) (seen : List Event) (c now : Control) (x : Turned) : Type 0 where
  pub events : List Event
  pub one_call : (events ≡ [])
      ⊎ ((call : Call) × (events ≡ event c.machine call (reply t (after t opening seen) c.machine call) ∷ []))
  pub legal : IsLegal t opening (seen ++ events)
  pub word : packed t (after t opening (seen ++ events)) ≡ x.word
  pub in_place : InPlace t opening (seen ++ events) now
  pub permitted : ArePermitted t opening (seen ++ events) now x.motors

-- so it is of each turn on a word that a legal history leads to, by which the machine is at its place
abbrev pub TurnsGoOn : Type 0
TurnsGoOn =
    (t : PlanTable) (opening : State) (seen : List Event) (c : Control) (sensors : Option ℕ) (x : Turned)
    → IsPlan t → IsSound t opening → IsLegal t opening seen → InPlace t opening seen c
    → (turn : IsTurn t (after t opening seen) (packed t (after t opening seen)) c sensors x)
    → GoesOn t opening seen c turn.now x
