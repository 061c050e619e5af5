-- Six workers with devices of your own, one for each machine of the cell: a refusal stops none of them.
use Rattle.std.specs.Prelude.{◌≢◌, ℕ, List, Option, None}
use Rattle.cell_rules.specs.Types.{Machine, Feed, Table, Robot, Press, Deposit, Crane, Event}
use Rattle.cell_rules.specs.Names.{Waits, IsStartState, IsLegal}
use Rattle.cell_interlock.specs.Views.{PassView, InterlockView}
use Rattle.cell_interlock.specs.Fresh.{fresh_pass}
use Rattle.cell_control.specs.declared.commands.Commands.{Commands}
use Rattle.cell_notes.specs.declared.status.Status.{Status}
use Rattle.cell_notes.specs.declared.status.Status.TheVariants.{Refused}
use Rattle.cell_parts.specs.Axes.{CellScales}
use Rattle.cell_plant.specs.Machines.{CellGauges, SenseOf, ActOf, steps_by}
use Rattle.cell_threads.specs.Workers.{GateOf}
use Rattle.cell_renewal.specs.WiredWorkers.{IsWiredResult, wired_moment}

-- what devices of these types may show, and how they are set
abbrev pub Shows : Type 0 → Machine → Type 1
Shows D m = D → Option (SenseOf m) → D → Type 0

abbrev pub Sets : Type 0 → Machine → Type 1
Sets D m = D → Commands (ActOf m) → D → Type 0

-- a machine's worker began with a fresh pass of the interlock, at the start of its program, with these devices; by its
-- cycles it has come to the pass that it gave back, and it ended with this status
pub record WiredEnd {D : Type 0} (c : CellScales) (gives : CellGauges) (m : Machine) (shows : Shows D m)
    (sets : Sets D m) (tries limit : ℕ) (gate : GateOf) (i : InterlockView) : Type 0 where
  pub first : D
  pub kept : PassView
  pub turns : ℕ
  pub missed : ℕ
  pub status : Status
  pub devices : D
  pub ended : IsWiredResult tries (steps_by c gives m) shows sets gate limit
      (wired_moment (fresh_pass i m) ((steps_by c gives m).start i.opening) None first 0 0) kept turns missed status
      devices

-- Six of them over one interlock, which opened with a start. There is one legal history: each has seen a part of it,
-- with all events of its machine.
module _ {D1 D2 D3 D4 D5 D6 : Type 0} (c : CellScales) (gives : CellGauges)
    (shows1 : Shows D1 Feed) (sets1 : Sets D1 Feed) (shows2 : Shows D2 Table) (sets2 : Sets D2 Table)
    (shows3 : Shows D3 Robot) (sets3 : Sets D3 Robot) (shows4 : Shows D4 Press) (sets4 : Sets D4 Press)
    (shows5 : Shows D5 Deposit) (sets5 : Sets D5 Deposit) (shows6 : Shows D6 Crane) (sets6 : Sets D6 Crane) where
  pub record WiredTeam (tries limit : ℕ) (gate : Machine → GateOf) : Type 0 where
    pub interlock : InterlockView
    pub starts : IsStartState interlock.opening
    pub feed : WiredEnd c gives Feed shows1 sets1 tries limit (gate Feed) interlock
    pub table : WiredEnd c gives Table shows2 sets2 tries limit (gate Table) interlock
    pub robot : WiredEnd c gives Robot shows3 sets3 tries limit (gate Robot) interlock
    pub press : WiredEnd c gives Press shows4 sets4 tries limit (gate Press) interlock
    pub deposit : WiredEnd c gives Deposit shows5 sets5 tries limit (gate Deposit) interlock
    pub crane : WiredEnd c gives Crane shows6 sets6 tries limit (gate Crane) interlock
    pub history : List Event
    pub legal : IsLegal interlock.opening history
    pub feed_seen : Waits Feed feed.kept.seen history
    pub table_seen : Waits Table table.kept.seen history
    pub robot_seen : Waits Robot robot.kept.seen history
    pub press_seen : Waits Press press.kept.seen history
    pub deposit_seen : Waits Deposit deposit.kept.seen history
    pub crane_seen : Waits Crane crane.kept.seen history

  -- none ends as refused
  pub record NoneEndsRefused (tries limit : ℕ) (gate : Machine → GateOf) (team : WiredTeam tries limit gate)
      : Type 0 where
    pub feed : team.feed.status ≢ Refused
    pub table : team.table.status ≢ Refused
    pub robot : team.robot.status ≢ Refused
    pub press : team.press.status ≢ Refused
    pub deposit : team.deposit.status ≢ Refused
    pub crane : team.crane.status ≢ Refused

  abbrev pub NoWiredWorkerIsRefused : (Machine → GateOf) → Type 0
  NoWiredWorkerIsRefused gate = (tries limit : ℕ) (team : WiredTeam tries limit gate)
      → NoneEndsRefused tries limit gate team
