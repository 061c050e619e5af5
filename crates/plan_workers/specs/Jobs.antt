-- Machines at work over one interlock, each by its pass.
use Rattle.std.specs.Prelude.{◌≡◌, ◌<◌, ℕ, List, length, slice_index_or, Option}
use Rattle.plan_types.specs.Table.{PlanTable}
use Rattle.plan_rules.specs.declared.state.State.{State}
use Rattle.plan_drives.specs.Course.{IsAt}
use Rattle.plan_controller.specs.Turns.{Control, program_in}
use Rattle.plan_interlock.specs.declared.rules.PlanRules.{PlanRules}
use Rattle.plan_interlock.specs.Book.{plan_of}
use Rattle.word_interlock.specs.Views.{InterlockView}
use Rattle.word_interlock.specs.Seen.{IsSamePass}
use Rattle.plan_workers.specs.declared.run.PlanJob.{PlanJob}
use Rattle.plan_workers.specs.declared.run.PlanWorked.{PlanWorked}
use Rattle.plan_workers.specs.Lines.{PlanPassView, LineView, LineAsks}
use Rattle.plan_workers.specs.Works.{AtWork, at_work}
use Rattle.plan_workers.specs.Turning.{Ways, GateOf, HasWorked}

abbrev pub PlanInterlockView : Type 0
PlanInterlockView = InterlockView PlanRules State

-- a pass was made with this interlock, by the same plan
pub record IsJobOf (i : PlanInterlockView) (pass : PlanPassView) : Type 0 where
  pub table : pass.table ≡ i.table
  pub plan : plan_of pass.rules ≡ plan_of i.rules

-- a controller is that of a pass's machine, which is at the controller's place by all that the pass has seen
pub record IsInPlace (t : PlanTable) (pass : PlanPassView) (c : Control) : Type 0 where
  pub own : c.machine ≡ pass.actor
  pub at : IsAt t pass.opening pass.seen c.machine (program_in c) c.place

-- a machine may go to work over this interlock, by its pass, from where its controller is
pub record IsReady {D : Type 0} (i : PlanInterlockView) (job : PlanJob D) : Type 0 where
  pub own : IsJobOf i job.pass
  pub in_place : IsInPlace (plan_of i.rules) job.pass job.controller

module _ {D : Type 0} (reads : D → Option ℕ → D → Type 0) (drives : D → ℕ → D → Type 0) where
  -- what is known of lines by passes, with these devices
  abbrev pub by_pass : Ways LineView D
  by_pass = record {
    table = λ l. l.plan;
    machine = λ l. l.pass.actor;
    opening = λ l. l.pass.opening;
    seen = λ l. l.pass.seen;
    asks = λ l c a d. LineAsks l c a d;
    reads = reads;
    drives = drives;
  }

  -- A machine has worked from where its controller was, over a line of this interlock by its pass, up to a last moment.
  -- It gives back the pass of that moment, which is still this machine's, its controller, which is in place there, and
  -- its devices, with all motors off.
  pub record HasDone (i : PlanInterlockView) (gate : ℕ → GateOf) (limit : ℕ) (job : PlanJob D) (back : PlanWorked D)
      : Type 0 where
    pub line : LineView
    pub pass : line.pass ≡ job.pass
    pub plan : line.plan ≡ plan_of i.rules
    pub tries : line.tries ≡ i.tries
    pub last : AtWork LineView D
    pub worked : HasWorked by_pass (gate job.pass.actor) limit
        (at_work job.controller line job.devices) last back.turns
    pub pass_back : back.pass ≡ last.line.pass
    pub same : IsSamePass job.pass back.pass
    pub control : back.controller ≡ last.control
    pub in_place : IsInPlace (plan_of i.rules) back.pass back.controller
    pub off : drives last.devices 0 back.devices
    pub stopped : back.stopped_by ≡ last.control.stopped

  -- so has each of several, in their order
  abbrev pub HaveDone : PlanInterlockView → (ℕ → GateOf) → ℕ → List (PlanJob D) → List (PlanWorked D) → Type 0
  HaveDone i gate limit jobs backs =
      (k : ℕ) (job : PlanJob D) (back : PlanWorked D) → k < length jobs
      → HasDone i gate limit (slice_index_or jobs k job) (slice_index_or backs k back)
