-- A run of a plant's machines, each through its program on all words, and what is told of it. What is noted of each word
-- is explained by itself, as in a run of a plan.
use Rattle.std.specs.Prelude.{◌≡◌, ◌≢◌, ◌<◌, ◌≤◌, ◌⊎◌, ℕ, Bool, true, false, List, length, map, slice_get, ⊤}
use Rattle.std.specs.Prelude.{slice_index_or, string_bytes, unwrap_or, Option, Some, None, IsTrue, option_and_then, option_map}
use Rattle.csv_rows.specs.ScriptEnd.{max_records}
use Rattle.plan_types.specs.declared.answer.Event.{Event}
use Rattle.plan_rules.specs.declared.state.State.{State}
use Rattle.plan_explorer.specs.Plants.{state_on}
use Rattle.plan_text.specs.HistoryLaws.{IsStartOf}
use Rattle.plan_interlock.specs.Book.{plan_of}
use Rattle.plan_interlock.specs.Plant.{WordView}
use Rattle.plan_interlock.specs.PlantMake.{new_pass}
use Rattle.plan_document.specs.declared.plants.ProgrammedPlant.{ProgrammedPlant}
use Rattle.plan_document.specs.declared.resolving.ProgrammedPlan.{ProgrammedPlan}
use Rattle.plan_workers.specs.Audited.{HasNoHistory, IsAudited, Journals}
use Rattle.plan_workers.specs.PlantClosing.{journals_on}
use Rattle.plan_workers.specs.PlantJobs.{IsPlantReady}
use Rattle.plan_workers.specs.PlantRecording.{HavePlantRecorded}
use Rattle.plan_workers.specs.PlantSteps.{word_of}
use Rattle.plan_workers.specs.PlantTurns.{PlantControl, plant_control}
use Rattle.plan_workers.specs.declared.plant_record.PlantRecorded.{PlantRecorded}
use Rattle.plan_workers.specs.declared.plant_run.PlantJob.{PlantJob}
use Rattle.plan_workers.specs.declared.routed_step.RoutedStep.{RoutedStep}
use Rattle.plan_app.specs.PlantStarts.{tables_of}
use Rattle.plan_app.specs.PlantRunTexts.{are_fine, are_own_on_each, history_on, plant_run_text}
use Rattle.plan_app.specs.Simulated.{Drives, Reads, Simulation, new_simulation}
use Rattle.plan_app.specs.WholePrograms.{HasNoProgram, IsProgramOf, program_on}
use Rattle.plan_app.specs.declared.plant_run.PlantRunFault.{PlantRunFault}
use Rattle.plan_app.specs.declared.plant_run.PlantRunFault.TheVariants.{Memory, Audit, Long, Words}
use Rattle.plan_app.specs.declared.plant_run_text.PlantStop.{PlantStop}
use Rattle.plan_app.specs.declared.run.Told.{Told}
use Rattle.plan_app.specs.declared.run.Told.TheVariants.{Fine, Stopped}

-- each word begins with a start of its plan
pub record AreStartsOf (plans : List ProgrammedPlan) (starts : List State) : Type 0 where
  pub count : length starts ≡ length plans
  pub each : (word : ℕ) (plan : ProgrammedPlan) → slice_get plans word ≡ Some plan
      → IsStartOf plan.named (state_on starts word)

-- how many machines there are: each plan has all of them
abbrev pub machines_by : Option ProgrammedPlan → ℕ
machines_by None = 0
machines_by (Some plan) = plan.named.plan.machines

abbrev pub machine_count : List ProgrammedPlan → ℕ
machine_count plans = machines_by (slice_get plans 0)

-- ---- the run

-- a machine's job: by its own new pass, from the beginning of its program, with simulated devices; each run is on word 0
pub record IsPlantJobFor (plant : ProgrammedPlant) (words : List WordView) (m : ℕ) (job : PlantJob Simulation)
    : Type 0 where
  pub ready : IsPlantReady words job
  pub pass : job.pass ≡ new_pass words m
  pub steps : List RoutedStep
  pub program : IsProgramOf plant m steps
  pub controller : job.controller ≡ plant_control m (length plant.plans.items) steps 0 None
  pub devices : job.devices ≡ new_simulation (program_on plant.plans.items m 0)

-- each of these by its number
abbrev pub ArePlantJobsFor : ProgrammedPlant → List WordView → List (PlantJob Simulation) → Type 0
ArePlantJobsFor plant words jobs =
    (m : ℕ) (job : PlantJob Simulation) → m < length jobs → IsPlantJobFor plant words m (slice_index_or jobs m job)

-- each word's interlock is by its plan, and opened with its start
pub record AreWordsOf (plans : List ProgrammedPlan) (starts : List State) (words : List WordView) : Type 0 where
  pub rules : map (λ i. plan_of i.rules) words ≡ tables_of plans
  pub opening : map (λ i. i.opening) words ≡ starts

-- what machines gave back that have worked over one interlock of a plant, which opened with these starts: each took its
-- turns by its job, one job for each machine
pub record HavePlantRun (plant : ProgrammedPlant) (turns : ℕ) (starts : List State) (backs : List (PlantRecorded Simulation))
    : Type 0 where
  pub words : List WordView
  pub opened : AreWordsOf plant.plans.items starts words
  pub jobs : List (PlantJob Simulation)
  pub many : length jobs ≡ machine_count plant.plans.items
  pub each : ArePlantJobsFor plant words jobs
  pub all : length backs ≡ length jobs
  pub recorded : HavePlantRecorded Reads Drives words (λ machine turn answer. answer ≡ true) turns jobs backs

-- what has stopped a machine, on which word: that of the step at which it is
abbrev pub word_at : PlantControl → ℕ
word_at c = unwrap_or (option_and_then word_of (slice_get c.steps c.place)) 0

abbrev pub stop_in : PlantRecorded Simulation → Option PlantStop
stop_in back =
    option_map (λ refusal. record { word = word_at back.worked.controller; refusal = refusal }) back.worked.stopped_by

abbrev pub stops_in : List (PlantRecorded Simulation) → List (Option PlantStop)
stops_in backs = map stop_in backs

-- one legal history from a word's start explains what each machine has noted of the word
abbrev pub IsExplained : ProgrammedPlan → State → Journals → List Event → Type 0
IsExplained plan start journals history = (end : State) × IsAudited plan.named.plan start journals (Some end) history

-- that is so of each word
abbrev pub AreExplained : List ProgrammedPlan → List State → List (PlantRecorded Simulation) → List (List Event) → Type 0
AreExplained plans starts backs histories =
    (word : ℕ) (plan : ProgrammedPlan) → slice_get plans word ≡ Some plan
    → IsExplained plan (state_on starts word) (journals_on word backs) (history_on histories word)

-- machines have run, and each word has such a history
pub record IsPlantRunOf (plant : ProgrammedPlant) (turns : ℕ) (starts : List State) (histories : List (List Event))
    (stops : List (Option PlantStop)) : Type 0 where
  pub backs : List (PlantRecorded Simulation)
  pub run : HavePlantRun plant turns starts backs
  pub count : length histories ≡ length plant.plans.items
  pub explained : AreExplained plant.plans.items starts backs histories
  pub stopped : stops ≡ stops_in backs

-- no word has more events than a script may have
abbrev pub AreFew : List (List Event) → Type 0
AreFew histories = (word : ℕ) → length (history_on histories word) ≤ max_records

-- a text tells a run, of calls that machines may ask; and whether none was stopped
pub record TellsPlantRun (plant : ProgrammedPlant) (turns : ℕ) (starts : List State) (fine : Bool) (text : List ℕ)
    : Type 0 where
  pub histories : List (List Event)
  pub stops : List (Option PlantStop)
  pub is : IsPlantRunOf plant turns starts histories stops
  pub own : IsTrue (are_own_on_each plant.plans.items histories)
  pub few : AreFew histories
  pub none : fine ≡ are_fine stops
  pub told : text ≡ plant_run_text plant.plans.items turns starts histories stops

-- what is printed: all of it, if no machine was stopped
abbrev pub IsPlantTold : ProgrammedPlant → ℕ → List State → Told → Type 0
IsPlantTold plant turns starts (Fine text) = TellsPlantRun plant turns starts true (string_bytes text)
IsPlantTold plant turns starts (Stopped text) = TellsPlantRun plant turns starts false (string_bytes text)

-- ---- why a run isn't told

-- some word has another number of machines than the first one
pub record HasOtherMachines (plans : List ProgrammedPlan) : Type 0 where
  pub word : ℕ
  pub plan : ProgrammedPlan
  pub there : slice_get plans word ≡ Some plan
  pub other : plan.named.plan.machines ≢ machine_count plans

-- the words aren't those of one plant: there are none, or not all have the same machines, or what a machine has on them
-- isn't one program
abbrev pub AreNoPlant : ProgrammedPlant → Type 0
AreNoPlant plant =
    (length plant.plans.items ≡ 0) ⊎ (HasOtherMachines plant.plans.items ⊎ ((m : ℕ) × HasNoProgram plant m))

-- it hasn't begun
abbrev pub IsUnbegun : ProgrammedPlant → PlantRunFault → Type 0
IsUnbegun plant Memory = ⊤
IsUnbegun plant Words = AreNoPlant plant
IsUnbegun plant Audit = ⊥
IsUnbegun plant Long = ⊥

-- what an audit of what they have noted of a word has found
abbrev pub IsUnexplained : ProgrammedPlan → State → Journals → PlantRunFault → Type 0
IsUnexplained plan start journals Memory = ⊤
IsUnexplained plan start journals Audit = (end : State) × HasNoHistory plan.named.plan start journals (Some end)
IsUnexplained plan start journals Long = ⊥
IsUnexplained plan start journals Words = ⊥

-- that is so of some word
pub record AreUnexplained (plans : List ProgrammedPlan) (starts : List State) (backs : List (PlantRecorded Simulation))
    (fault : PlantRunFault) : Type 0 where
  pub word : ℕ
  pub plan : ProgrammedPlan
  pub there : slice_get plans word ≡ Some plan
  pub is : IsUnexplained plan (state_on starts word) (journals_on word backs) fault

-- machines have run, but no legal history of some word explains what they have noted of it
pub record IsPlantUnexplained (plant : ProgrammedPlant) (turns : ℕ) (starts : List State) : Type 0 where
  pub backs : List (PlantRecorded Simulation)
  pub run : HavePlantRun plant turns starts backs
  pub none : AreUnexplained plant.plans.items starts backs Audit

-- some word's history has a call that isn't its machine's own
pub record HasForeignPlantCall (plant : ProgrammedPlant) (turns : ℕ) (starts : List State) : Type 0 where
  pub histories : List (List Event)
  pub stops : List (Option PlantStop)
  pub is : IsPlantRunOf plant turns starts histories stops
  pub foreign : are_own_on_each plant.plans.items histories ≡ false

-- some word's history has more events than a script may have records
pub record IsPlantTooLong (plant : ProgrammedPlant) (turns : ℕ) (starts : List State) : Type 0 where
  pub histories : List (List Event)
  pub stops : List (Option PlantStop)
  pub is : IsPlantRunOf plant turns starts histories stops
  pub word : ℕ
  pub long : max_records < length (history_on histories word)

abbrev pub IsPlantUntold : ProgrammedPlant → ℕ → List State → PlantRunFault → Type 0
IsPlantUntold plant turns starts Memory = ⊤
IsPlantUntold plant turns starts Words = AreNoPlant plant
IsPlantUntold plant turns starts Audit =
    IsPlantUnexplained plant turns starts ⊎ HasForeignPlantCall plant turns starts
IsPlantUntold plant turns starts Long = IsPlantTooLong plant turns starts
