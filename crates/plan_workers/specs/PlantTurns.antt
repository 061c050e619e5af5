-- A controller that goes through a program on several words, and what a turn does on each of them.
use Rattle.std.specs.Prelude.{◌≡◌, ◌≢◌, ◌<◌, ℕ, nat_eq, if◌then◌else◌, List, length, map, slice_get, slice_index_or}
use Rattle.std.specs.Prelude.{Option, Some, None, option_and_then, All, ⊤}
use Rattle.plan_types.specs.declared.call.Call.{Call}
use Rattle.plan_types.specs.declared.answer.Answer.{Answer}
use Rattle.plan_types.specs.declared.answer.Refusal.{Refusal}
use Rattle.plan_types.specs.declared.answer.Event.{Event}
use Rattle.plan_controller.specs.declared.step.Step.{Step}
use Rattle.plan_controller.specs.declared.outcome.Outcome.{Outcome}
use Rattle.plan_controller.specs.Seen.{SeenAfter}
use Rattle.plan_controller.specs.Turns.{Control, control, place_after, stopped_after}
use Rattle.plan_workers.specs.declared.routed_step.RoutedStep.{RoutedStep}
use Rattle.plan_workers.specs.PlantSteps.{word_of, step_of, step_on, steps_on, place_on}

-- a controller: its machine, how many words there are, its program, its place in it, and what has stopped it
pub record PlantControl : Type 0 where
  pub machine : ℕ
  pub words : ℕ
  pub steps : List RoutedStep
  pub place : ℕ
  pub stopped : Option Refusal

abbrev pub plant_control : ℕ → ℕ → List RoutedStep → ℕ → Option Refusal → PlantControl
plant_control machine words steps place stopped =
    record { machine = machine; words = words; steps = steps; place = place; stopped = stopped }

-- each step stands on one of these words, or on all
abbrev pub IsOnWords : ℕ → Option ℕ → Type 0
IsOnWords words None = ⊤
IsOnWords words (Some w) = w < words

abbrev pub AreOnWords : ℕ → List RoutedStep → Type 0
AreOnWords words steps = All (λ x. IsOnWords words (word_of x)) steps

-- ---- its controllers

-- as if all words were one: the controller of the whole program
abbrev pub whole : PlantControl → Control
whole c = control c.machine (map step_of c.steps) c.place c.stopped

-- a step has led to this
abbrev pub advanced : PlantControl → Outcome → PlantControl
advanced c o = record c { place = place_after (whole c) o; stopped = stopped_after (whole c) o }

-- what the step at which it is is on a word; none, where the step doesn't stand there
abbrev pub here_on : ℕ → PlantControl → Option Step
here_on w c = option_and_then (step_on w) (slice_get c.steps c.place)

-- only where the step stands on a word
abbrev pub if_here : {A : Type 0} → Option Step → Option A → Option A
if_here None x = None
if_here (Some s) x = x

-- the controller of a word: it goes through the word's steps, and what stops it is on the word of the step
abbrev pub control_on : ℕ → PlantControl → Control
control_on w c =
    control c.machine (steps_on w c.steps) (place_on w c.steps c.place) (if_here (here_on w c) c.stopped)

-- a word's controller takes its turn by the sensors where the step stands on the word; else it rests, as with the
-- sensors unread
abbrev pub sensors_on : ℕ → PlantControl → Option ℕ → Option ℕ
sensors_on w c sensors = if_here (here_on w c) sensors

-- ---- lines, one for each word

-- this holds of the line of each word
abbrev pub OnEachLine : {L : Type 0} → List L → (ℕ → L → Type 0) → Type 0
OnEachLine {L} lines holds = (w : ℕ) (l : L) → w < length lines → holds w (slice_index_or lines w l)

-- and this, of the lines before and after a turn
abbrev pub OnEachWord : {L : Type 0} → List L → List L → (ℕ → L → L → Type 0) → Type 0
OnEachWord {L} before now holds =
    (w : ℕ) (l : L) → w < length before → holds w (slice_index_or before w l) (slice_index_or now w l)

-- what a word was asked: the turn asked this call of this word, and this came back
abbrev pub Asking : Type 0
Asking = Option (ℕ × Call × Option Answer)

abbrev pub asked_on : ℕ → Asking → Option (Call × Option Answer)
asked_on w None = None
asked_on w (Some (k, call, answer)) = if nat_eq k w then Some (call, answer) else None

-- what a line has seen after a turn: no more, where its word wasn't asked
abbrev pub SeenOn : ℕ → Option (Call × Option Answer) → List Event → List Event → Type 0
SeenOn m None before now = now ≡ before
SeenOn m (Some (call, answer)) before now = SeenAfter m call answer before now

-- one word was asked, that of the step at which the controller is; the lines of all others are as they were
pub record AsksOneWord {L : Type 0} (asks : L → Call → Option Answer → L → Type 0) (before now : List L)
    (c : PlantControl) (call : Call) (answer : Option Answer) (asked : Asking) : Type 0 where
  pub word : ℕ
  pub own : option_and_then word_of (slice_get c.steps c.place) ≡ Some word
  pub is : asked ≡ Some (word, call, answer)
  pub line : (l : L) → asks (slice_index_or before word l) call answer (slice_index_or now word l)
  pub others : (k : ℕ) (l : L) → k ≢ word → slice_index_or now k l ≡ slice_index_or before k l

-- it goes on with the same program
pub record IsSameProgram (before now : PlantControl) : Type 0 where
  pub machine : now.machine ≡ before.machine
  pub words : now.words ≡ before.words
  pub steps : now.steps ≡ before.steps
