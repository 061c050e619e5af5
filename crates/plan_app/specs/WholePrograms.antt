-- The program of a machine on all words of a plant. On each word it is the program of the word's plan; its calls come in
-- the order of the plant's program, which has no runs.
use Rattle.std.specs.Prelude.{◌≡◌, ◌<◌, ℕ, List, [], length, take, Option, Some, None, slice_get}
use Rattle.std.specs.List.{filter_map}
use Rattle.plan_types.specs.declared.call.Call.{Call}
use Rattle.plan_types.specs.declared.call.Call.TheVariants.{Inquire}
use Rattle.plan_controller.specs.declared.step.Step.{Step}
use Rattle.plan_explorer.specs.PlantPrograms.{routed_of}
use Rattle.plan_explorer.specs.declared.plant_programs.RoutedCall.{RoutedCall}
use Rattle.plan_document.specs.declared.plants.ProgrammedPlant.{ProgrammedPlant}
use Rattle.plan_document.specs.declared.resolving.ProgrammedPlan.{ProgrammedPlan}
use Rattle.plan_workers.specs.PlantSteps.{step_on, steps_on, word_of}
use Rattle.plan_workers.specs.PlantTurns.{AreOnWords, IsOnWords}
use Rattle.plan_workers.specs.declared.routed_step.RoutedStep.{RoutedStep}
use Rattle.plan_workers.specs.declared.routed_step.RoutedStep.TheVariants.{Do, Await, Run}
use Rattle.plan_app.specs.Runs.{program_of}

-- the call that a step asks, with its word: an inquiry where it waits for a zone, none where it runs
abbrev pub routed : ℕ → Call → RoutedCall
routed word call = record { word = word; call = call }

abbrev pub call_of : RoutedStep → Option RoutedCall
call_of (Do word call faults) = Some (routed word call)
call_of (Await word zone) = Some (routed word (Inquire zone))
call_of (Run motors until) = None

abbrev pub calls_of : List RoutedStep → List RoutedCall
calls_of steps = filter_map call_of steps

-- the program of a machine by the plan of a word; no steps if there is none
abbrev pub program_by : Option ProgrammedPlan → ℕ → List Step
program_by None m = []
program_by (Some plan) m = program_of plan m

abbrev pub program_on : List ProgrammedPlan → ℕ → ℕ → List Step
program_on plans m word = program_by (slice_get plans word) m

-- these steps are the program of a machine, which asks these calls
pub record IsWhole (plans : List ProgrammedPlan) (calls : List RoutedCall) (m : ℕ) (steps : List RoutedStep) : Type 0 where
  pub on_words : (word : ℕ) → word < length plans → steps_on word steps ≡ program_on plans m word
  pub asks : calls_of steps ≡ calls
  pub there : AreOnWords (length plans) steps

-- that of a machine of a plant
abbrev pub IsProgramOf : ProgrammedPlant → ℕ → List RoutedStep → Type 0
IsProgramOf plant m steps = IsWhole plant.plans.items (routed_of plant.programs.programs m) m steps

-- what it has on the words isn't one program
abbrev pub HasNoProgram : ProgrammedPlant → ℕ → Type 0
HasNoProgram plant m = (steps : List RoutedStep) → ¬ IsProgramOf plant m steps

-- ---- how it is found

-- these steps are the first ones of the program
pub record AreFirst (plans : List ProgrammedPlan) (calls : List RoutedCall) (m : ℕ) (steps : List RoutedStep) : Type 0 where
  pub on_words : (word : ℕ) → word < length plans
      → steps_on word steps ≡ take (length (steps_on word steps)) (program_on plans m word)
  pub asks : calls_of steps ≡ take (length (calls_of steps)) calls
  pub there : AreOnWords (length plans) steps

-- and after them this one comes: on each word where it stands it is the word's next one
pub record IsNext (plans : List ProgrammedPlan) (calls : List RoutedCall) (m : ℕ) (steps : List RoutedStep) (next : RoutedStep)
    : Type 0 where
  pub on_words : (word : ℕ) (step : Step) → word < length plans → step_on word next ≡ Some step
      → slice_get (program_on plans m word) (length (steps_on word steps)) ≡ Some step
  pub asks : (call : RoutedCall) → call_of next ≡ Some call → slice_get calls (length (calls_of steps)) ≡ Some call
  pub there : IsOnWords (length plans) (word_of next)

-- none comes after them
abbrev pub HasNoNext : List ProgrammedPlan → List RoutedCall → ℕ → List RoutedStep → Type 0
HasNoNext plans calls m steps = (next : RoutedStep) → ¬ IsNext plans calls m steps next

-- after these steps each word has this next one
abbrev pub AreAllAt : List ProgrammedPlan → ℕ → List RoutedStep → Option Step → Type 0
AreAllAt plans m steps own =
    (word : ℕ) → word < length plans → slice_get (program_on plans m word) (length (steps_on word steps)) ≡ own

-- the word of a call
abbrev pub word_by : Option RoutedCall → ℕ
word_by None = 0
word_by (Some call) = call.word
