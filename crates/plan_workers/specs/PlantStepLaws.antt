-- Laws of programs on several words: what each word has of a program, and where its controller is; with literal rows.
use Rattle.std.specs.Prelude.{◌≡◌, ◌≢◌, ℕ, List, [], ◌∷◌, ◌++◌, map, slice_get, Option, Some, None}
use Rattle.plan_types.specs.declared.call.Call.{Call}
use Rattle.plan_types.specs.declared.call.Call.TheVariants.{Claim, Release}
use Rattle.plan_types.specs.declared.answer.Answer.TheVariants.{Done}
use Rattle.plan_types.specs.declared.answer.Refusal.{Refusal}
use Rattle.plan_types.specs.declared.answer.Refusal.TheVariants.{Worn}
use Rattle.plan_controller.specs.declared.faults.Faults.{Faults}
use Rattle.plan_controller.specs.declared.step.Step.TheVariants as step
use Rattle.plan_controller.specs.Faults.{no_faults}
use Rattle.plan_controller.specs.Turns.{control, step_in}
use Rattle.plan_workers.specs.declared.routed_step.RoutedStep.{RoutedStep}
use Rattle.plan_workers.specs.declared.routed_step.RoutedStep.TheVariants.{Do, Await, Run}
use Rattle.plan_workers.specs.PlantSteps.{steps_on, place_on}
use Rattle.plan_workers.specs.PlantTurns.{PlantControl, plant_control, asked_on, control_on, sensors_on, whole}

-- A word has of a program the calls and waits that are on it, and all runs, in their order; and no others
pub record ProgramsAreSplit (w : ℕ) : Type 0 where
  pub in_order : (first later : List RoutedStep) → steps_on w (first ++ later) ≡ steps_on w first ++ steps_on w later
  pub own_calls : (call : Call) (faults : Faults) → steps_on w (Do w call faults ∷ []) ≡ step.Do call faults ∷ []
  pub own_waits : (z : ℕ) → steps_on w (Await w z ∷ []) ≡ step.Await z ∷ []
  pub runs : (motors until : ℕ) → steps_on w (Run motors until ∷ []) ≡ step.Run motors until ∷ []
  pub other_calls : (k : ℕ) (call : Call) (faults : Faults) → k ≢ w → steps_on w (Do k call faults ∷ []) ≡ []
  pub other_waits : (k z : ℕ) → k ≢ w → steps_on w (Await k z ∷ []) ≡ []
  pub no_more : steps_on w [] ≡ []

-- At a call or a wait the controller of its word is at it, and those of all other words rest; at a run each word's
-- controller is at the run. At the beginning each is at its first step
pub record WordsKeepPace (c : PlantControl) (w : ℕ) : Type 0 where
  pub begins : c.place ≡ 0 → (control_on w c).place ≡ 0
  pub calls : (call : Call) (faults : Faults) → slice_get c.steps c.place ≡ Some (Do w call faults)
      → step_in (control_on w c) ≡ Some (step.Do call faults)
  pub waits : (z : ℕ) → slice_get c.steps c.place ≡ Some (Await w z) → step_in (control_on w c) ≡ Some (step.Await z)
  pub runs : (motors until : ℕ) → slice_get c.steps c.place ≡ Some (Run motors until)
      → step_in (control_on w c) ≡ Some (step.Run motors until)
  pub other_calls : (k : ℕ) (call : Call) (faults : Faults) (sensors : Option ℕ) → k ≢ w
      → slice_get c.steps c.place ≡ Some (Do k call faults) → sensors_on w c sensors ≡ None
  pub other_waits : (k z : ℕ) (sensors : Option ℕ) → k ≢ w
      → slice_get c.steps c.place ≡ Some (Await k z) → sensors_on w c sensors ≡ None

-- ---- a loader that claims a press, on word 0, and a shelf, on word 1; runs its arm until sensor 4 shows; leaves the
-- shelf; and awaits the press

abbrev pub program : List RoutedStep
program =
    Do 0 (Claim 0) no_faults ∷ Do 1 (Claim 2) no_faults ∷ Run 1 4 ∷ Do 1 (Release 2) no_faults ∷ Await 0 0 ∷ []

abbrev pub at : ℕ → Option Refusal → PlantControl
at place stopped = plant_control 7 2 program place stopped

pub record PlantExamples : Type 0 where
  pub at_press : steps_on 0 program ≡ step.Do (Claim 0) no_faults ∷ step.Run 1 4 ∷ step.Await 0 ∷ []
  pub at_shelf : steps_on 1 program
      ≡ step.Do (Claim 2) no_faults ∷ step.Run 1 4 ∷ step.Do (Release 2) no_faults ∷ []
  pub elsewhere : steps_on 2 program ≡ step.Run 1 4 ∷ []
  -- the places of both words at each step: on word 1 the first one comes after the last
  pub places_at_press : map (place_on 0 program) (0 ∷ 1 ∷ 2 ∷ 3 ∷ 4 ∷ []) ≡ 0 ∷ 1 ∷ 1 ∷ 2 ∷ 2 ∷ []
  pub places_at_shelf : map (place_on 1 program) (0 ∷ 1 ∷ 2 ∷ 3 ∷ 4 ∷ []) ≡ 0 ∷ 0 ∷ 1 ∷ 2 ∷ 0 ∷ []
  -- who takes its turn
  pub first_at_press : sensors_on 0 (at 0 None) (Some 5) ≡ Some 5
  pub not_at_shelf : sensors_on 1 (at 0 None) (Some 5) ≡ None
  pub both_run : (sensors_on 0 (at 2 None) (Some 5) ≡ Some 5) × (sensors_on 1 (at 2 None) (Some 5) ≡ Some 5)
  -- a refusal of one word stops the whole, and that word's controller
  pub stopped_at_shelf : control_on 1 (at 3 (Some Worn)) ≡ control 7 (steps_on 1 program) 2 (Some Worn)
  pub not_at_press : control_on 0 (at 3 (Some Worn)) ≡ control 7 (steps_on 0 program) 2 None
  pub stopped : (whole (at 3 (Some Worn))).stopped ≡ Some Worn
  -- what each word was asked
  pub asked : asked_on 1 (Some (1, Claim 2, Some Done)) ≡ Some (Claim 2, Some Done)
  pub not_asked : asked_on 0 (Some (1, Claim 2, Some Done)) ≡ None
