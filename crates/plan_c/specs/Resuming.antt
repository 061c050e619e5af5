-- When a machine may go on at its place, by the word alone, as after a power cut; and what follows of it.
use Rattle.std.specs.Prelude.{◌≡◌, ℕ, ◌≤◌, ◌<◌, List, [], length, map, Option}
use Rattle.plan_types.specs.declared.answer.Event.{Event}
use Rattle.plan_types.specs.declared.answer.Refusal.{Refusal}
use Rattle.plan_types.specs.Table.{PlanTable}
use Rattle.plan_types.specs.Plan.{IsPlan}
use Rattle.plan_rules.specs.declared.state.State.{State}
use Rattle.plan_rules.specs.Sound.{IsSound}
use Rattle.plan_rules.specs.History.{after, IsLegal}
use Rattle.plan_drives.specs.Facts.{OpensByPoses}
use Rattle.plan_drives.specs.InStep.{IsInStep}
use Rattle.plan_controller.specs.declared.step.Step.{Step}
use Rattle.plan_controller.specs.Steps.{line_of}
use Rattle.plan_controller.specs.Turns.{Control, control}
use Rattle.plan_c.specs.Courses.{InPlace}
use Rattle.plan_c.specs.Lines.{row_of, HasStep}
use Rattle.plan_c.specs.Turning.{stop_number, place_of}
use Rattle.plan_c.specs.declared.line.ProgramLine.{ProgramLine}
use Rattle.plan_c.specs.declared.turn.Place.{Place}

-- these rows are a program of these steps: each is the row of its step, and there are at most 255
pub record IsProgram (rows : List ProgramLine) (steps : List Step) : Type 0 where
  pub rows_are : rows ≡ map row_of steps
  pub at_most : length rows ≤ 255

-- each row is a step's
abbrev pub AreSteps : List ProgramLine → Type 0
AreSteps rows = (steps : List Step) × (rows ≡ map row_of steps)

-- 0, or the number of a refusal
abbrev pub IsStop : ℕ → Type 0
IsStop n = (stopped : Option Refusal) × (n ≡ stop_number stopped)

-- the rows are a program, by whose lines a machine is in step with a state
pub record IsInStepBy (t : PlanTable) (s : State) (m : ℕ) (rows : List ProgramLine) (line : ℕ) : Type 0 where
  pub steps : List Step
  pub program : IsProgram rows steps
  pub in_step : IsInStep t s m (map line_of steps) line

-- a machine may go on at its place in a program, in a state: it is in step there, zones are open as poses give, and the
-- place has no number but that of a stop
pub record MayGoOn (t : PlanTable) (s : State) (m : ℕ) (rows : List ProgramLine) (place : Place) : Type 0 where
  pub by : IsInStepBy t s m rows place.line
  pub opens : OpensByPoses t s
  pub stop : IsStop place.stopped

-- A machine that may go on has all that a turn by `bagunjoki_plan_turn`, and its motors by the law of turns, ask for: a
-- step at its line and the stop of its place; and it is in place, with the word's state as the opening.
pub record ResumesInPlace (t : PlanTable) (s : State) (m : ℕ) (rows : List ProgramLine) (place : Place) : Type 0 where
  pub steps : List Step
  pub stopped : Option Refusal
  pub rows_are : rows ≡ map row_of steps
  pub step : HasStep rows steps place.line
  pub stop : place.stopped ≡ stop_number stopped
  pub opens : OpensByPoses t s
  pub in_place : InPlace t s [] (control m steps place.line stopped)

-- and the place to which turns have led is one to go on at, by the word to which they have led
abbrev pub PlacesAreTakenBack : Type 0
PlacesAreTakenBack =
    (t : PlanTable) (opening : State) (seen : List Event) (c : Control) (rows : List ProgramLine)
    → IsPlan t → IsSound t opening → OpensByPoses t opening → IsLegal t opening seen → InPlace t opening seen c
    → IsProgram rows c.steps → c.place < length c.steps → MayGoOn t (after t opening seen) c.machine rows (place_of c)

pub record ResumesGoOn : Type 0 where
  pub resumed : (t : PlanTable) (s : State) (m : ℕ) (rows : List ProgramLine) (place : Place)
      → MayGoOn t s m rows place → ResumesInPlace t s m rows place
  pub taken_back : PlacesAreTakenBack
