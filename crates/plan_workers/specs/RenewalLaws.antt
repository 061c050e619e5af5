-- What holds over one interlock after another: motors are permitted, and no call is answered Worn.
use Rattle.std.specs.Prelude.{◌≡◌, ◌≢◌, ◌<◌, ◌≤◌, ◌*◌, ℕ, List, [], ◌∷◌, ◌++◌, length, All}
use Rattle.std.specs.Prelude.{Option, Some, Result, IsTrue, ⊤}
use Rattle.plan_types.specs.declared.answer.Answer.TheVariants.{Refused}
use Rattle.plan_types.specs.declared.answer.Event.{Event}
use Rattle.plan_types.specs.declared.answer.Refusal.TheVariants.{Worn}
use Rattle.plan_types.specs.Table.{PlanTable}
use Rattle.plan_rules.specs.declared.state.State.{State}
use Rattle.plan_rules.specs.State.{last_stamp}
use Rattle.plan_rules.specs.History.{IsLegal, after}
use Rattle.plan_motors.specs.Motor.{Permits}
use Rattle.plan_motors.specs.MotorPlan.{MotorTables}
use Rattle.plan_motors.specs.OfPlan.{motor_at}
use Rattle.plan_drives.specs.Course.{Stays}
use Rattle.plan_drives.specs.Facts.{OpensByPoses}
use Rattle.plan_drives.specs.Program.{IsDriven, has_bit}
use Rattle.plan_controller.specs.Turns.{program_in}
use Rattle.plan_interlock.specs.Book.{plan_book, plan_of}
use Rattle.word_interlock.specs.Bunches.{IsEnd}
use Rattle.plan_workers.specs.declared.record.PlanRecorded.{PlanRecorded}
use Rattle.plan_workers.specs.declared.rounds.PlanRound.{PlanRound}
use Rattle.plan_workers.specs.declared.run.PlanJob.{PlanJob}
use Rattle.plan_workers.specs.Works.{AtWork, at_work}
use Rattle.plan_workers.specs.Turning.{AreTaken, GateOf}
use Rattle.plan_workers.specs.Jobs.{PlanInterlockView}
use Rattle.plan_workers.specs.Recording.{HasRecorded, JournalLineView, by_journal}
use Rattle.plan_workers.specs.Audited.{IsAudited, journals_in}
use Rattle.plan_workers.specs.Closing.{Passes}
use Rattle.plan_workers.specs.Renewing.{RoundMoment, TakesRound}

-- over an interlock that ends below the last stamp no call was answered Worn
abbrev pub UnwornEndsTell : Type 0
UnwornEndsTell =
    (t : PlanTable) (opening end : State) (passes : Passes) (ended : IsEnd (plan_book t) opening passes end)
    → end.stamp < last_stamp → All (λ e. e.answer ≢ Refused Worn) ended.history

-- these motors are permitted by the state after all that a machine's line has seen, and after whatever then happens
-- until a next call of the machine is done
abbrev pub ArePermittedNow : {D : Type 0} → MotorTables → AtWork JournalLineView D → ℕ → Type 0
ArePermittedNow plan now motors =
    (more : List Event)
    → IsLegal now.line.line.plan now.line.line.pass.opening (now.line.line.pass.seen ++ more)
    → Stays more now.control.machine → (i : ℕ) → IsTrue (has_bit motors i)
    → Permits now.line.line.plan (after now.line.line.plan now.line.line.pass.opening (now.line.line.pass.seen ++ more))
    (motor_at plan.motors i)

module _ {D : Type 0} (reads : D → Option ℕ → D → Type 0) (drives : D → ℕ → D → Type 0) where
  -- so are those that each of these turns gave
  abbrev pub AreAllPermitted : MotorTables → (before : AtWork JournalLineView D)
      (turns : List (AtWork JournalLineView D)) → AreTaken (by_journal reads drives) before turns → Type 0
  AreAllPermitted plan before [] taken = ⊤
  AreAllPermitted plan before (now ∷ later) taken =
      ArePermittedNow plan now taken.0.turn.taken.motors × AreAllPermitted plan now later taken.1

  module _ (gate : ℕ → GateOf) where
    -- A machine has worked by a job, over an interlock whose open zones were open as poses give. If the plan with its
    -- motors accepts its program, each motor that it was given was permitted.
    abbrev pub WorkIsPermitted : Type 0
    WorkIsPermitted =
        (i : PlanInterlockView) (turns : ℕ) (job : PlanJob D) (back : PlanRecorded D)
        (work : HasRecorded reads drives i gate turns job back) (plan : MotorTables)
        → plan.plan ≡ plan_of i.rules → OpensByPoses (plan_of i.rules) job.pass.opening
        → IsDriven plan job.controller.machine (program_in job.controller)
        → AreAllPermitted plan (at_work job.controller work.line job.devices) work.worked.come.turns
        work.worked.come.taken

-- each event is of one of the first `n` machines
abbrev pub AreOfMachines : ℕ → List Event → Type 0
AreOfMachines n [] = ⊤
AreOfMachines n (e ∷ history) = (e.machine < n) × AreOfMachines n history

-- a round in which nobody but its machines has called leaves a stamp of at most as many as all their turns
abbrev pub TurnsLeaveRoom : {D S Fault : Type 0} → (D → Option ℕ → D → Type 0) → (D → ℕ → D → Type 0)
    → (S → PlanRound → Result (Unit {0}) Fault → S → Type 0) → (ℕ → GateOf) → Type 0
TurnsLeaveRoom {D} {S} reads drives takes gate =
    (t : PlanTable) (tries turns : ℕ) (before now : RoundMoment D S)
    (round : TakesRound reads drives takes t tries turns gate before now)
    → AreOfMachines (length before.machines) round.ended.history
    → now.state.stamp ≤ length before.machines * turns

-- the history of such a round explains the journals that were noted of it: so an audit accepts them, unless memory runs
-- out
abbrev pub RoundsAreExplained : {D S Fault : Type 0} → (D → Option ℕ → D → Type 0) → (D → ℕ → D → Type 0)
    → (S → PlanRound → Result (Unit {0}) Fault → S → Type 0) → (ℕ → GateOf) → Type 0
RoundsAreExplained {D} {S} reads drives takes gate =
    (t : PlanTable) (tries turns : ℕ) (before now : RoundMoment D S)
    (round : TakesRound reads drives takes t tries turns gate before now)
    → AreOfMachines (length before.machines) round.ended.history
    → IsAudited t round.round.opening (journals_in round.round.journals.items) (Some round.round.end)
    round.ended.history
