-- A controller's turn on a word, and what C gets of it.
use Rattle.std.specs.Prelude.{◌≡◌, ℕ, Bool, Option, Some, None, if◌then◌else◌}
use Rattle.plan_types.specs.declared.call.Call.{Call}
use Rattle.plan_types.specs.declared.answer.Answer.{Answer}
use Rattle.plan_types.specs.declared.answer.Refusal.{Refusal}
use Rattle.plan_types.specs.Table.{PlanTable}
use Rattle.plan_rules.specs.declared.state.State.{State}
use Rattle.plan_rules.specs.Reply.{reply, next}
use Rattle.plan_word.specs.Packed.{packed}
use Rattle.plan_controller.specs.Turns.{Control, Turns, IsCareful}
use Rattle.plan_c.specs.Replies.{refusal_number, answer_number, nothing}
use Rattle.plan_c.specs.declared.turn.Place.{Place}
use Rattle.plan_c.specs.declared.turn.Turned.{Turned}

-- what has stopped a controller; 0 while it runs
abbrev pub stop_number : Option Refusal → ℕ
stop_number None = 0
stop_number (Some r) = refusal_number r

-- what C stores of a controller
abbrev pub place_of : Control → Place
place_of c = record { line = c.place; stopped = stop_number c.stopped }

abbrev pub sensed : Bool → ℕ → Option ℕ
sensed read sensors = if read then Some sensors else None

-- no call was made: the word is the one before, and the answer is no call's
abbrev pub Silent : ℕ → ℕ → ℕ → Type 0
Silent word new answer = (new ≡ word) × (answer ≡ nothing)

-- a state was asked a call: its reply came back, by its number, and the word of the state after it
abbrev pub Asks : PlanTable → State → ℕ → ℕ → ℕ → Call → Option Answer → Type 0
Asks t s m new answer call a =
    (a ≡ Some (reply t s m call))
    × (new ≡ packed t (next t s m call))
    × (answer ≡ answer_number (reply t s m call))

-- C gets one turn of a controller, whose line asks this state
pub record IsTurn (t : PlanTable) (s : State) (word : ℕ) (c : Control) (sensors : Option ℕ) (x : Turned)
    : Type 0 where
  pub now : Control
  pub turn : Turns c (Silent word x.word x.answer) (Asks t s c.machine x.word x.answer) sensors x.motors now
  pub place : x.place ≡ place_of now
  pub careful : IsCareful c sensors x.motors now

-- all motors are off, nothing has changed, and C is told why
abbrev pub resting : ℕ → ℕ → Place → Turned
resting answer word place = record { word = word; motors = 0; place = place; answer = answer }

abbrev pub Rests : ℕ → Place → Turned → Type 0
Rests word place x = (x.motors ≡ 0) × (x.word ≡ word) × (x.place ≡ place)
