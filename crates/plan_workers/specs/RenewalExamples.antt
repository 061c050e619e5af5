-- Which states interlocks open with, who may go on, and what a round is: literal examples of a press with its loader.
use Rattle.std.specs.Prelude.{◌≡◌, ◌≢◌, ◌+◌, ℕ, true, List, [], ◌∷◌, map, Option, Some, None, Result, ⊤}
use Rattle.plan_types.specs.declared.answer.Event.{Event}
use Rattle.plan_types.specs.declared.answer.Refusal.TheVariants.{Jump}
use Rattle.plan_types.specs.declared.call.Call.TheVariants.{Claim, SetPose, Yield, Release}
use Rattle.plan_types.specs.Examples.{press_table}
use Rattle.plan_rules.specs.declared.state.State.{State}
use Rattle.plan_rules.specs.Examples.{did, press_start}
use Rattle.plan_rules.specs.History.{after}
use Rattle.plan_rules.specs.State.{last_stamp}
use Rattle.plan_drives.specs.Examples.{opening}
use Rattle.plan_controller.specs.declared.step.Step.{Step}
use Rattle.plan_controller.specs.declared.step.Step.TheVariants.{Do, Await, Run}
use Rattle.plan_controller.specs.Faults.{no_faults}
use Rattle.plan_controller.specs.Turns.{Control, control}
use Rattle.word_interlock.specs.Views.{view_of}
use Rattle.plan_workers.specs.declared.record.PlanRecorded.{PlanRecorded}
use Rattle.plan_workers.specs.declared.rounds.PlanMachine.{PlanMachine}
use Rattle.plan_workers.specs.declared.rounds.PlanRound.{PlanRound}
use Rattle.plan_workers.specs.Turning.{GateOf}
use Rattle.plan_workers.specs.Jobs.{PlanInterlockView}
use Rattle.plan_workers.specs.Closing.{Passes}
use Rattle.plan_workers.specs.Renewing.{HasRenewed, MayGoOn, RoundMoment, TakesRound}
use Rattle.plan_workers.specs.Renewing.{given_back, jobs_from, left_by, restamped, round_moment}

-- the press's program, and its loader's; and each at a line of its program
abbrev pub press_steps : List Step
press_steps =
    Do (Claim 0) no_faults ∷ Do (SetPose 3) no_faults ∷ Run 33 4 ∷ Do (SetPose 0) no_faults ∷ Do (Yield 0) no_faults
    ∷ Await 0 ∷ Do (SetPose 3) no_faults ∷ Run 1 4 ∷ Do (SetPose 2) no_faults ∷ Do (Release 0) no_faults ∷ []

abbrev pub loader_steps : List Step
loader_steps = Await 0 ∷ Run 2 5 ∷ Do (Yield 0) no_faults ∷ []

abbrev pub press_at : ℕ → Control
press_at place = control 1 press_steps place None

abbrev pub loader_at : ℕ → Control
loader_at place = control 0 loader_steps place None

abbrev pub at : List Event → State
at history = after press_table press_start history

-- after two calls the press moves
abbrev pub moves : List Event
moves = did 1 (Claim 0) ∷ did 1 (SetPose 3) ∷ []

abbrev pub GoesOnAt : List Event → ℕ → Control → Type 0
GoesOnAt history m c = MayGoOn press_table (at history) m c

pub record RenewalExamples : Type 0 where
  -- the stamp begins again, all else is as it was left
  pub stamp : (restamped (at moves)).stamp ≡ 0
  pub left_stamp : (at moves).stamp ≡ 2
  pub zones : (restamped (at moves)).zones ≡ (at moves).zones
  pub places : (restamped (at moves)).full ≡ (at moves).full
  pub stop : (restamped (record press_start { stamp = 7; stopped = true })).stopped ≡ true
  pub not_the_opening : restamped (at moves) ≢ press_start
  -- who may go on there: at the beginning of its program, or where it is in step
  pub beginning : GoesOnAt [] 1 (press_at 0)
  pub press : GoesOnAt moves 1 (press_at 2)
  pub loader : GoesOnAt opening 0 (loader_at 1)
  pub stopped : GoesOnAt moves 1 (control 1 press_steps 2 (Some Jump))
  pub no_program : GoesOnAt [] 0 (control 0 [] 0 None)
  pub not_moving : ¬ GoesOnAt (did 1 (Claim 0) ∷ []) 1 (press_at 2)
  pub holds_nothing : ¬ GoesOnAt [] 0 (loader_at 1)
  pub past_the_end : ¬ GoesOnAt opening 0 (loader_at 3)
  pub other_machine : ¬ GoesOnAt [] 0 (press_at 0)
  -- each machine goes to work by its own pass, as it was left; and its pass comes back
  pub actors : (i : PlanInterlockView) (x y : PlanMachine ℕ)
      → map (λ job. job.pass.actor) (jobs_from i 0 (x ∷ y ∷ [])) ≡ 0 ∷ 1 ∷ []
  pub unseen : (i : PlanInterlockView) (x y : PlanMachine ℕ)
      → map (λ job. job.pass.seen) (jobs_from i 0 (x ∷ y ∷ [])) ≡ [] ∷ [] ∷ []
  pub controllers : (i : PlanInterlockView) (x y : PlanMachine ℕ)
      → map (λ job. job.controller) (jobs_from i 0 (x ∷ y ∷ [])) ≡ x.controller ∷ y.controller ∷ []
  pub devices : (i : PlanInterlockView) (x y : PlanMachine ℕ)
      → map (λ job. job.devices) (jobs_from i 0 (x ∷ y ∷ [])) ≡ x.devices ∷ y.devices ∷ []
  pub back : (others : Passes) (x y : PlanRecorded ℕ)
      → given_back others (x ∷ y ∷ []) ≡ view_of y.worked.pass ∷ view_of x.worked.pass ∷ others

-- ---- rounds, with any devices and any gate, and a sink that counts them

abbrev pub counts : ℕ → PlanRound → Result (Unit {0}) ℕ → ℕ → Type 0
counts before round result now = now ≡ before + 1

abbrev pub any_reads : ℕ → Option ℕ → ℕ → Type 0
any_reads before shown now = ⊤

abbrev pub any_drives : ℕ → ℕ → ℕ → Type 0
any_drives before motors now = ⊤

abbrev pub any_gate : ℕ → GateOf
any_gate machine turn answer = ⊤

abbrev pub Counting : Type 0
Counting = RoundMoment ℕ ℕ

-- a round of the press with its loader, and several: at most 2 turns each
abbrev pub IsRound : Counting → Counting → Type 0
IsRound before now = TakesRound any_reads any_drives counts press_table 8 2 any_gate before now

abbrev pub AreRoundsOf : ℕ → Counting → Counting → Type 0
AreRoundsOf rounds first last = HasRenewed any_reads any_drives counts press_table 8 2 any_gate rounds first last

pub record RoundExamples : Type 0 where
  -- two rounds have a moment between them, and the sink takes both
  pub two : (first last : Counting) → AreRoundsOf 2 first last
      → (middle : Counting) × IsRound first middle × IsRound middle last
  pub two_are_taken : (first last : Counting) → AreRoundsOf 2 first last → last.sink ≡ first.sink + 2
  pub none : (first last : Counting) → AreRoundsOf 0 first last → last ≡ first
  -- an interlock opens where the last one ended, and not with its opening
  pub opens : (machines : List (PlanMachine ℕ)) (now : Counting) (k : IsRound (round_moment machines (at moves) 0) now)
      → k.interlock.opening ≡ record (at moves) { stamp = 0 }
  pub opens_again : (machines : List (PlanMachine ℕ)) (now : Counting)
      (k : IsRound (round_moment machines (at moves) 0) now) → k.interlock.opening ≢ press_start
  -- each machine goes on where it is, and not at its first line
  pub goes_on : (before now : Counting) (k : IsRound before now) (x y : PlanRecorded ℕ) → k.backs ≡ x ∷ y ∷ []
      → now.machines ≡ left_by x ∷ left_by y ∷ []
  pub first_line : (before : Counting) (state : State) (sink d : ℕ) (x : PlanRecorded ℕ)
      (k : IsRound before (round_moment (record { controller = press_at 0; devices = d } ∷ []) state sink))
      → k.backs ≡ x ∷ [] → x.worked.controller ≢ press_at 2
  -- its journals are handed on, and a worn interlock isn't gone on from
  pub journals : (before now : Counting) (k : IsRound before now) (x y : PlanRecorded ℕ) → k.backs ≡ x ∷ y ∷ []
      → k.round.journals.items ≡ x.journal ∷ y.journal ∷ []
  pub unhanded : (before : List (PlanMachine ℕ)) (now : List (PlanMachine ℕ)) (s end : State)
      → ¬ IsRound (round_moment before s 0) (round_moment now end 0)
  pub worn : (before : Counting) (now : List (PlanMachine ℕ)) (end : State) (sink : ℕ) → end.stamp ≡ last_stamp
      → ¬ IsRound before (round_moment now end sink)
