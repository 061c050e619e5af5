-- In a run there is a job for each machine: it goes through its own program, from the beginning, by its own pass.
use Rattle.std.specs.Prelude.{◌≡◌, ◌<◌, ℕ, List, [], get_or, map, slice_get, slice_index_or, Some}
use Rattle.plan_rules.specs.declared.state.State.{State}
use Rattle.plan_controller.specs.declared.step.Step.{Step}
use Rattle.plan_document.specs.declared.plants.ProgrammedPlant.{ProgrammedPlant}
use Rattle.plan_document.specs.declared.resolving.ProgrammedPlan.{ProgrammedPlan}
use Rattle.plan_explorer.specs.PlantPrograms.{routed_of}
use Rattle.plan_workers.specs.PlantSteps.{steps_on}
use Rattle.plan_workers.specs.declared.plant_record.PlantRecorded.{PlantRecorded}
use Rattle.plan_workers.specs.declared.plant_run.PlantJob.{PlantJob}
use Rattle.plan_workers.specs.declared.record.PlanRecorded.{PlanRecorded}
use Rattle.plan_workers.specs.declared.run.PlanJob.{PlanJob}
use Rattle.plan_app.specs.PlantRuns.{HavePlantRun}
use Rattle.plan_app.specs.Runs.{HaveRun}
use Rattle.plan_app.specs.Simulated.{Simulation}
use Rattle.plan_app.specs.WholePrograms.{calls_of}

-- what a plan says that a machine does
abbrev pub steps_in : ProgrammedPlan → ℕ → List Step
steps_in plan m = get_or (map (λ steps. steps.items) plan.steps.items) m []

-- this is a machine's job in a run of a plan
pub record IsByProgram (plan : ProgrammedPlan) (m : ℕ) (job : PlanJob Simulation) : Type 0 where
  pub pass : job.pass.actor ≡ m
  pub machine : job.controller.machine ≡ m
  pub steps : job.controller.steps ≡ steps_in plan m
  pub place : job.controller.place ≡ 0

abbrev pub RunsAreByPrograms : Type 0
RunsAreByPrograms =
    (plan : ProgrammedPlan) (turns : ℕ) (start : State) (backs : List (PlanRecorded Simulation))
    → (run : HaveRun plan turns start backs) → (m : ℕ) (job : PlanJob Simulation) → m < plan.named.plan.machines
    → IsByProgram plan m (slice_index_or run.jobs m job)

-- this is a machine's job in a run of a plant: on each word it does what the word's plan says, and it asks its calls in
-- the order of the plant's program
pub record IsByPrograms (plant : ProgrammedPlant) (m : ℕ) (job : PlantJob Simulation) : Type 0 where
  pub pass : job.pass.actor ≡ m
  pub machine : job.controller.machine ≡ m
  pub on_each : (word : ℕ) (plan : ProgrammedPlan) → slice_get plant.plans.items word ≡ Some plan
      → steps_on word job.controller.steps ≡ steps_in plan m
  pub asks : calls_of job.controller.steps ≡ routed_of plant.programs.programs m
  pub place : job.controller.place ≡ 0

-- a plant has the machines of its first word
abbrev pub PlantRunsAreByPrograms : Type 0
PlantRunsAreByPrograms =
    (plant : ProgrammedPlant) (turns : ℕ) (starts : List State) (backs : List (PlantRecorded Simulation))
    → (run : HavePlantRun plant turns starts backs) → (first : ProgrammedPlan) → slice_get plant.plans.items 0 ≡ Some first
    → (m : ℕ) (job : PlantJob Simulation) → m < first.named.plan.machines
    → IsByPrograms plant m (slice_index_or run.jobs m job)
