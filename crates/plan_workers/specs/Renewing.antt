-- Machines at work over one interlock after another: each opens with the state that the last one left, with stamp 0.
use Rattle.std.specs.Prelude.{◌≡◌, ◌<◌, ◌+◌, ◌⊎◌, ℕ, List, [], ◌∷◌, length, map, Option, Result, Ok, ⊤}
use Rattle.plan_types.specs.declared.answer.Event.{Event}
use Rattle.plan_types.specs.Table.{PlanTable, watch}
use Rattle.plan_rules.specs.declared.state.State.{State}
use Rattle.plan_rules.specs.State.{last_stamp}
use Rattle.plan_drives.specs.Facts.{OpensByPoses}
use Rattle.plan_drives.specs.InStep.{IsInStep}
use Rattle.plan_controller.specs.Turns.{Control, program_in}
use Rattle.plan_interlock.specs.Book.{plan_book, plan_of}
use Rattle.plan_interlock.specs.declared.rules.PlanRules.{PlanRules}
use Rattle.word_interlock.specs.Views.{PassesView, pass_of, view_of}
use Rattle.word_interlock.specs.Rule.{new_view}
use Rattle.word_interlock.specs.Bunches.{IsEnd, fresh_passes}
use Rattle.plan_workers.specs.declared.run.PlanJob.{PlanJob}
use Rattle.plan_workers.specs.declared.record.PlanRecorded.{PlanRecorded}
use Rattle.plan_workers.specs.declared.rounds.PlanMachine.{PlanMachine}
use Rattle.plan_workers.specs.declared.rounds.PlanRound.{PlanRound}
use Rattle.plan_workers.specs.Lines.{PlanPassView}
use Rattle.plan_workers.specs.Turning.{GateOf, last_of}
use Rattle.plan_workers.specs.Jobs.{PlanInterlockView}
use Rattle.plan_workers.specs.Recording.{HaveRecorded}
use Rattle.plan_workers.specs.Closing.{Passes}

-- a state with stamp 0: the same zones, places and stop
abbrev pub restamped : State → State
restamped s = record s { stamp = 0 }

-- an interlock of the plan has ended, and this one opens with the state that it left, with stamp 0, and new passes
pub record IsRenewed (t : PlanTable) (opening : State) (passes : Passes) (next : PlanInterlockView)
    (fresh : PassesView PlanRules State ℕ Event) : Type 0 where
  pub end : State
  pub ended : IsEnd (plan_book t) opening passes end
  pub plan : plan_of next.rules ≡ t
  pub opens : next.opening ≡ restamped end
  pub all_new : fresh ≡ fresh_passes next (plan_book t).actors

-- ---- between two interlocks

-- a machine's controller may go on where an interlock opens with a state: at the beginning of its program, or where it
-- is in step with the state
pub record MayGoOn (t : PlanTable) (s : State) (m : ℕ) (c : Control) : Type 0 where
  pub own : c.machine ≡ m
  pub place : (c.place ≡ 0) ⊎ IsInStep t s m (program_in c) c.place

-- so may several, those of the machines from this number on
abbrev pub MayAllGoOn : {D : Type 0} → PlanTable → State → ℕ → List (PlanMachine D) → Type 0
MayAllGoOn t s m [] = ⊤
MayAllGoOn t s m (x ∷ later) = MayGoOn t s m x.controller × MayAllGoOn t s (m + 1) later

-- an interlock of the plan may open with a state but for its stamp, and each machine of the plan may go on there
pub record AreReadyAt {D : Type 0} (t : PlanTable) (s : State) (machines : List (PlanMachine D)) : Type 0 where
  pub sound : (plan_book t).is_sound s
  pub by_poses : OpensByPoses t s
  pub all : length machines ≡ t.machines
  pub each : MayAllGoOn t s 0 machines

-- ---- a round

-- the new pass of a machine, which has seen nothing yet
abbrev pub fresh_pass : PlanInterlockView → ℕ → PlanPassView
fresh_pass i m = pass_of i.table (new_view i.rules i.opening m)

-- machines go to work, each by its own new pass: those from this number on
abbrev pub jobs_from : {D : Type 0} → PlanInterlockView → ℕ → List (PlanMachine D) → List (PlanJob D)
jobs_from i m [] = []
jobs_from i m (x ∷ later) =
    record { pass = fresh_pass i m; controller = x.controller; devices = x.devices } ∷ jobs_from i (m + 1) later

-- what a machine gives back, without its pass and its journal
abbrev pub left_by : {D : Type 0} → PlanRecorded D → PlanMachine D
left_by back = record { controller = back.worked.controller; devices = back.worked.devices }

-- the passes of several machines, given back one after another to others
abbrev pub given_back : {D : Type 0} → Passes → List (PlanRecorded D) → Passes
given_back passes [] = passes
given_back passes (back ∷ later) = given_back (view_of back.worked.pass ∷ passes) later

-- the watch's new pass, which no machine has
abbrev pub watch_alone : PlanInterlockView → Passes
watch_alone i = new_view i.rules i.opening watch ∷ []

-- what is noted of a round: the state that its interlock opened with, the journal of each machine, and the state that
-- it left
pub record IsNotedIn {D : Type 0} (opened : State) (backs : List (PlanRecorded D)) (left : State) (round : PlanRound)
    : Type 0 where
  pub opening : round.opening ≡ opened
  pub journals : round.journals.items ≡ map (λ back. back.journal) backs
  pub end : round.end ≡ left

-- between two rounds: the machines, by their numbers, the state, and the caller's sink
pub record RoundMoment (D S : Type 0) : Type 0 where
  pub machines : List (PlanMachine D)
  pub state : State
  pub sink : S

abbrev pub round_moment : {D S : Type 0} → List (PlanMachine D) → State → S → RoundMoment D S
round_moment machines state sink = record { machines = machines; state = state; sink = sink }

module _ {D S Fault : Type 0} (reads : D → Option ℕ → D → Type 0) (drives : D → ℕ → D → Type 0)
    (takes : S → PlanRound → Result (Unit {0}) Fault → S → Type 0) (t : PlanTable) (tries turns : ℕ)
    (gate : ℕ → GateOf) where
  -- From one round to the next. An interlock of the plan opens with the state, with stamp 0, and each open zone is open
  -- as poses give. Each machine of the plan works over it by a new pass, from where it was. Then all passes come back,
  -- the watch's as it was, and the interlock leaves a state, below the last stamp. The sink takes what was noted. Each
  -- machine goes on where it is.
  pub record TakesRound (before now : RoundMoment D S) : Type 0 where
    pub interlock : PlanInterlockView
    pub plan : plan_of interlock.rules ≡ t
    pub limit : interlock.tries ≡ tries
    pub opens : interlock.opening ≡ restamped before.state
    pub by_poses : OpensByPoses t interlock.opening
    pub all : length before.machines ≡ t.machines
    pub backs : List (PlanRecorded D)
    pub many : length backs ≡ length before.machines
    pub recorded : HaveRecorded reads drives interlock gate turns (jobs_from interlock 0 before.machines) backs
    pub ended : IsEnd (plan_book t) interlock.opening (given_back (watch_alone interlock) backs) now.state
    pub unworn : now.state.stamp < last_stamp
    pub round : PlanRound
    pub noted : IsNotedIn interlock.opening backs now.state round
    pub taken : takes before.sink round (Ok tt) now.sink
    pub go_on : now.machines ≡ map left_by backs

  -- rounds, each from the end of the one before it: the moment after each
  abbrev pub AreRounds : RoundMoment D S → List (RoundMoment D S) → Type 0
  AreRounds before [] = ⊤
  AreRounds before (now ∷ later) = TakesRound before now × AreRounds now later

  -- this number of rounds leads from one moment to another
  pub record HasRenewed (rounds : ℕ) (first last : RoundMoment D S) : Type 0 where
    pub moments : List (RoundMoment D S)
    pub taken : AreRounds first moments
    pub is_last : last_of first moments ≡ last
    pub many : length moments ≡ rounds
