use Rattle.std.proofs.Common.{◌≡◌, ◌<◌, ℕ, Some, length, slice_get}
use Rattle.plan_controller.specs.declared.step.Step.TheVariants as step
use Rattle.plan_workers.specs.PlantSteps.{steps_on}
use Rattle.plan_app.specs.WholePrograms as spec
use Rattle.plan_app.proofs.plant_steps.are_runs.Given as goal

abbrev pub invariant-loop-word : goal.invariant-loop-word
invariant-loop-word l =
    (word : ℕ) → word < l.word
    → slice_get (spec.program_on l.plans l.machine word) (length (steps_on word l.done)) ≡ Some (step.Run l.motors l.until)
