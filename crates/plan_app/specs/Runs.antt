-- A run of a plan's machines, and what is told of it.
use Rattle.std.specs.Prelude.{◌≡◌, ◌⊎◌, ℕ, ◌<◌, ◌≤◌, Bool, true, false, List, [], get_or, length, map, slice_index_or}
use Rattle.std.specs.Prelude.{string_bytes, Option, Some, None, IsTrue, ⊤}
use Rattle.csv_rows.specs.ScriptEnd.{max_records}
use Rattle.plan_types.specs.declared.answer.Refusal.{Refusal}
use Rattle.plan_types.specs.declared.answer.Event.{Event}
use Rattle.plan_rules.specs.declared.state.State.{State}
use Rattle.plan_controller.specs.declared.step.Step.{Step}
use Rattle.plan_controller.specs.Turns.{control}
use Rattle.plan_interlock.specs.Book.{plan_of}
use Rattle.plan_document.specs.declared.resolving.ProgrammedPlan.{ProgrammedPlan}
use Rattle.plan_workers.specs.Audited.{IsAudited, HasNoHistory, Journals, journals_in}
use Rattle.plan_workers.specs.Jobs.{IsReady, PlanInterlockView}
use Rattle.plan_workers.specs.Recording.{HaveRecorded}
use Rattle.plan_workers.specs.declared.record.PlanRecorded.{PlanRecorded}
use Rattle.plan_workers.specs.declared.run.PlanJob.{PlanJob}
use Rattle.plan_app.specs.RunTexts.{are_fine, are_own, run_text}
use Rattle.plan_app.specs.Simulated.{Drives, Reads, Simulation, new_simulation}
use Rattle.plan_app.specs.declared.run.RunFault.{RunFault}
use Rattle.plan_app.specs.declared.run.RunFault.TheVariants.{Memory, Audit, Long}
use Rattle.plan_app.specs.declared.run.Told.{Told}
use Rattle.plan_app.specs.declared.run.Told.TheVariants.{Fine, Stopped}

-- ---- the run

abbrev pub program_of : ProgrammedPlan → ℕ → List Step
program_of plan m = get_or (map (λ steps. steps.items) plan.steps.items) m []

-- a machine's job: by its own pass, from the beginning of its program, with simulated devices
pub record IsJobFor (plan : ProgrammedPlan) (i : PlanInterlockView) (m : ℕ) (job : PlanJob Simulation) : Type 0 where
  pub ready : IsReady i job
  pub machine : job.pass.actor ≡ m
  pub controller : job.controller ≡ control m (program_of plan m) 0 None
  pub devices : job.devices ≡ new_simulation (program_of plan m)

-- each of these by its number
abbrev pub AreJobsFor : ProgrammedPlan → PlanInterlockView → List (PlanJob Simulation) → Type 0
AreJobsFor plan i jobs =
    (m : ℕ) (job : PlanJob Simulation) → m < length jobs → IsJobFor plan i m (slice_index_or jobs m job)

-- what machines gave back that have worked over one interlock by a plan, which opened with a start: each took its
-- turns by its job, one job for each machine of the plan
pub record HaveRun (plan : ProgrammedPlan) (turns : ℕ) (start : State) (backs : List (PlanRecorded Simulation))
    : Type 0 where
  pub interlock : PlanInterlockView
  pub rules : plan_of interlock.rules ≡ plan.named.plan
  pub opening : interlock.opening ≡ start
  pub jobs : List (PlanJob Simulation)
  pub many : length jobs ≡ plan.named.plan.machines
  pub each : AreJobsFor plan interlock jobs
  pub all : length backs ≡ length jobs
  pub recorded : HaveRecorded Reads Drives interlock (λ machine turn answer. answer ≡ true) turns jobs backs

abbrev pub noted_in : List (PlanRecorded Simulation) → Journals
noted_in backs = journals_in (map (λ back. back.journal) backs)

abbrev pub stops_in : List (PlanRecorded Simulation) → List (Option Refusal)
stops_in backs = map (λ back. back.worked.stopped_by) backs

-- machines have run, and one legal history from the start explains what each has noted
pub record IsRunOf (plan : ProgrammedPlan) (turns : ℕ) (start : State) (history : List Event)
    (stops : List (Option Refusal)) : Type 0 where
  pub backs : List (PlanRecorded Simulation)
  pub run : HaveRun plan turns start backs
  pub end : State
  pub audited : IsAudited plan.named.plan start (noted_in backs) (Some end) history
  pub stopped : stops ≡ stops_in backs

-- a text tells a run, of calls that machines may ask, of no more than a script may have; and whether none was stopped
pub record TellsRun (plan : ProgrammedPlan) (turns : ℕ) (start : State) (fine : Bool) (text : List ℕ) : Type 0 where
  pub history : List Event
  pub stops : List (Option Refusal)
  pub is : IsRunOf plan turns start history stops
  pub own : IsTrue (are_own plan.named history)
  pub few : length history ≤ max_records
  pub none : fine ≡ are_fine stops
  pub told : text ≡ run_text plan.named turns start history stops

-- what is printed: all of it, if no machine was stopped
abbrev pub IsTold : ProgrammedPlan → ℕ → State → Told → Type 0
IsTold plan turns start (Fine text) = TellsRun plan turns start true (string_bytes text)
IsTold plan turns start (Stopped text) = TellsRun plan turns start false (string_bytes text)

-- ---- why a run isn't told

-- machines have run, but no legal history explains what they have noted
pub record IsUnexplained (plan : ProgrammedPlan) (turns : ℕ) (start : State) : Type 0 where
  pub backs : List (PlanRecorded Simulation)
  pub run : HaveRun plan turns start backs
  pub end : State
  pub none : HasNoHistory plan.named.plan start (noted_in backs) (Some end)

-- what an audit of what they have noted has found
abbrev pub IsUnaudited : ProgrammedPlan → State → List (PlanRecorded Simulation) → RunFault → Type 0
IsUnaudited plan start backs Memory = ⊤
IsUnaudited plan start backs Audit = (end : State) × HasNoHistory plan.named.plan start (noted_in backs) (Some end)
IsUnaudited plan start backs Long = ⊥

-- the history has a call that isn't its machine's own
pub record HasForeignCall (plan : ProgrammedPlan) (turns : ℕ) (start : State) : Type 0 where
  pub history : List Event
  pub stops : List (Option Refusal)
  pub is : IsRunOf plan turns start history stops
  pub foreign : are_own plan.named history ≡ false

-- it has more events than a script may have records
pub record IsTooLong (plan : ProgrammedPlan) (turns : ℕ) (start : State) : Type 0 where
  pub history : List Event
  pub stops : List (Option Refusal)
  pub is : IsRunOf plan turns start history stops
  pub long : max_records < length history

abbrev pub IsUntold : ProgrammedPlan → ℕ → State → RunFault → Type 0
IsUntold plan turns start Memory = ⊤
IsUntold plan turns start Audit = IsUnexplained plan turns start ⊎ HasForeignCall plan turns start
IsUntold plan turns start Long = IsTooLong plan turns start
