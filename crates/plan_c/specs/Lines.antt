-- The lines of a machine's program as C has them: each is the row of one step, or of none.
use Rattle.std.specs.Prelude.{◌≡◌, ℕ, ◌≤◌, List, length, slice_get, Some}
use Rattle.plan_controller.specs.declared.step.Step.{Step}
use Rattle.plan_controller.specs.declared.step.Step.TheVariants.{Do, Await, Run}
use Rattle.plan_c.specs.Numbers.{verb_number, object_number, faults_number}
use Rattle.plan_c.specs.declared.line.ProgramLine.{ProgramLine}

-- a call's kind is its verb
abbrev pub kind_number : Step → ℕ
kind_number (Do c _) = verb_number c
kind_number (Await _) = 16
kind_number (Run _ _) = 17

-- what a step doesn't have is 0
abbrev pub row_of : Step → ProgramLine
row_of (Do c faults) = record {
  motors = 0;
  kind = kind_number (Do c faults);
  object = object_number c;
  until = 0;
  faults = faults_number faults;
}
row_of (Await z) = record { motors = 0; kind = kind_number (Await z); object = z; until = 0; faults = 0 }
row_of (Run motors until) =
    record { motors = motors; kind = kind_number (Run motors until); object = 0; until = until; faults = 0 }

-- the program has a row for each of these steps, 255 at most, and the row at a line is the step's
pub record HasStep (rows : List ProgramLine) (steps : List Step) (line : ℕ) : Type 0 where
  pub as_many : length rows ≡ length steps
  pub at_most : length rows ≤ 255
  pub step : Step
  pub at_line : slice_get steps line ≡ Some step
  pub row : slice_get rows line ≡ Some (row_of step)

abbrev pub NoStep : List ProgramLine → ℕ → Type 0
NoStep rows line = (steps : List Step) → ¬ HasStep rows steps line
