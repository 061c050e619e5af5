-- A worker that goes on is worn only when its interlock's stamps are used up, and makes at most one call in a turn.
use Rattle.std.specs.Prelude.{◌≡◌, ◌≤◌, ◌+◌, ℕ, List, [], length, Option, None}
use Rattle.cell_rules.specs.Types.{Feed, Table, Robot, Press, Deposit, Crane, Watch, Event}
use Rattle.cell_rules.specs.Names.{ModelState, last_stamp, IsSound, IsLegal, own_events, done_count, Waits}
use Rattle.cell_interlock.specs.Views.{PassView}
use Rattle.cell_control.specs.Names.{Steps}
use Rattle.cell_control.specs.declared.fault.CtlFault.{CtlFault}
use Rattle.cell_control.specs.declared.commands.Commands.{Commands}
use Rattle.cell_notes.specs.declared.status.Status.{Status}
use Rattle.cell_notes.specs.declared.status.Status.TheVariants.{Worn}
use Rattle.cell_threads.specs.Workers.{GateOf}
use Rattle.cell_renewal.specs.WiredWorkers.{WiredMoment, IsGoingResult}

-- in a history at most as many calls are done as the seven machines have made
abbrev pub ChangesAreCalls : Type 0
ChangesAreCalls =
    (h : List Event)
    → done_count h
    ≤ length (own_events h Feed) + length (own_events h Table) + length (own_events h Robot) + length
    (own_events h Press)
    + length (own_events h Deposit) + length (own_events h Crane) + length (own_events h Watch)

-- A worker that began running, with the fresh pass of its machine. If it ends as worn, the history of its interlock has
-- used up all stamps. It has made at most one call in each turn.
pub record WearsLast {S Sense Reading Act D : Type 0} (t : Steps S Sense Reading Act)
    (shows : D → Option Sense → D → Type 0) (sets : D → Commands Act → D → Type 0) (gate : GateOf) : Type 0 where
  pub worn : (tries limit : ℕ) (first : WiredMoment S D) (kept : PassView) (turns missed : ℕ) (status : Status)
      (devices : D) (p : S) (stopped : Option CtlFault) (left : ModelState) (history : List Event)
      → IsGoingResult tries t shows sets gate limit first kept turns missed status devices p stopped left
      → first.stopped ≡ None → first.pass.machine ≡ t.machine → first.pass.seen ≡ [] → first.turns ≡ 0
      → IsSound first.pass.opening → IsLegal first.pass.opening history → Waits t.machine kept.seen history
      → status ≡ Worn → last_stamp ≤ first.pass.opening.stamp + done_count history
  pub one_call_each : (tries limit : ℕ) (first : WiredMoment S D) (kept : PassView) (turns missed : ℕ)
      (status : Status) (devices : D) (p : S) (stopped : Option CtlFault) (left : ModelState)
      → IsGoingResult tries t shows sets gate limit first kept turns missed status devices p stopped left
      → first.stopped ≡ None → first.pass.machine ≡ t.machine → first.pass.seen ≡ [] → first.turns ≡ 0
      → length (own_events kept.seen t.machine) ≤ turns
  pub changes : ChangesAreCalls
