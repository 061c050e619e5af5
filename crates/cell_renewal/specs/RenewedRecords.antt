-- What holds of six workers that go on over one interlock after another, each by the program of its machine.
use Rattle.std.specs.Prelude.{◌≡◌, ◌≢◌, ◌≤◌, ◌<◌, ◌+◌, ◌*◌, ℕ, List, [], length, Option, None, Result}
use Rattle.cell_rules.specs.Types.{Machine, Feed, Table, Robot, Press, Deposit, Crane, Watch}
use Rattle.cell_sensors.specs.declared.gauge.Gauge.{Ghosts}
use Rattle.cell_sensors.specs.declared.sense.CraneSense.{CraneSense}
use Rattle.cell_sensors.specs.declared.sense.RobotSense.{RobotSense}
use Rattle.cell_sensors.specs.declared.sense.TableSense.{TableSense}
use Rattle.cell_devices.specs.declared.act.CraneAct.{CraneAct}
use Rattle.cell_devices.specs.declared.act.RobotAct.{RobotAct}
use Rattle.cell_devices.specs.declared.act.TableAct.{TableAct}
use Rattle.cell_rules.specs.Names.{ModelState, last_stamp, IsSound, IsStartState, own_events}
use Rattle.cell_interlock.specs.Views.{PassView}
use Rattle.cell_control.specs.Names.{Steps}
use Rattle.cell_control.specs.declared.commands.Commands.{Commands}
use Rattle.cell_notes.specs.declared.status.Status.{Status}
use Rattle.cell_notes.specs.declared.status.Status.TheVariants.{Refused, Worn}
use Rattle.cell_belts_crane.specs.Names.{crane_steps, deposit_steps, feed_steps}
use Rattle.cell_belts_crane.specs.declared.crane.CraneProgram.{CraneProgram}
use Rattle.cell_belts_crane.specs.declared.crane.CraneProgress.{CraneProgress}
use Rattle.cell_belts_crane.specs.declared.crane.CraneReading.{CraneReading}
use Rattle.cell_belts_crane.specs.declared.deposit.DepositProgram.{DepositProgram}
use Rattle.cell_belts_crane.specs.declared.deposit.DepositProgress.{DepositProgress}
use Rattle.cell_belts_crane.specs.declared.feed.FeedProgram.{FeedProgram}
use Rattle.cell_belts_crane.specs.declared.feed.FeedProgress.{FeedProgress}
use Rattle.cell_robot.specs.Names.{gauges_of, robot_scales, robot_steps}
use Rattle.cell_robot.specs.declared.robot.RobotProgram.{RobotProgram}
use Rattle.cell_robot.specs.declared.robot.RobotProgress.{RobotProgress}
use Rattle.cell_robot.specs.declared.robot.RobotReading.{RobotReading}
use Rattle.cell_table_press.specs.Names.{press_steps, table_steps}
use Rattle.cell_table_press.specs.declared.press.PressProgram.{PressProgram}
use Rattle.cell_table_press.specs.declared.press.PressProgress.{PressProgress}
use Rattle.cell_table_press.specs.declared.table.TableProgram.{TableProgram}
use Rattle.cell_table_press.specs.declared.table.TableProgress.{TableProgress}
use Rattle.cell_table_press.specs.declared.table.TableReading.{TableReading}
use Rattle.cell_threads.specs.Promises.{GivesOf}
use Rattle.cell_threads.specs.Watching.{WatchesOf}
use Rattle.cell_threads.specs.Workers.{GateOf}
use Rattle.cell_threads.specs.declared.six_of.SixOf.{SixOf}
use Rattle.cell_renewal.specs.Going.{GoesOnFrom, GoingLeft, GoingOn}
use Rattle.cell_renewal.specs.Renewing.{GoesOnBy, RunsRenewed}
use Rattle.cell_renewal.specs.WiredTeams.{Shows, Sets}
use Rattle.cell_renewal.specs.WiredWorkers.{IsGoingResult, wired_moment}
use Rattle.cell_renewal.specs.declared.rounds.Leave.{Leave}
use Rattle.cell_renewal.specs.declared.rounds.Round.{Round}

-- what a `GoingWorker` promises to give back (its `gives_back`), by the steps of its program and by its devices
abbrev pub going_gives : {P D S Sense Reading Act : Type 0} → (P → Steps S Sense Reading Act) →
    (D → Option Sense → D → Type 0) → (D → Commands Act → D → Type 0) → GivesOf (GoingOn P S D) (GoingLeft P S D)
going_gives steps shows sets w pass tries gate limit r =
    (r.output.machine.program ≡ w.machine.program)
    × IsGoingResult tries (steps w.machine.program) shows sets gate limit
    (wired_moment pass w.machine.progress w.machine.stopped w.devices 0 0) r.pass r.output.turns r.output.missed
    r.output.status r.output.devices r.output.machine.progress r.output.machine.stopped r.output.machine.left

-- how it goes on with what was left (its `goes_on`)
abbrev pub going_on : {P S D : Type 0} → GoesOnBy (GoingLeft P S D) (GoingOn P S D)
going_on left opening now = GoesOnFrom left.machine left.devices opening now

-- six of them, by the six programs, and what they left; those of table, robot and crane have types of their own
abbrev pub GoingSix : Type 0 → Type 0 → Type 0 → Type 0 → Type 0 → Type 0 → Type 0 → Type 0 → Type 0 → Type 0
GoingSix T R C D1 D2 D3 D4 D5 D6 =
    SixOf (GoingOn FeedProgram FeedProgress D1) (GoingOn T TableProgress D2) (GoingOn R RobotProgress D3)
    (GoingOn PressProgram PressProgress D4) (GoingOn DepositProgram DepositProgress D5) (GoingOn C CraneProgress D6)

abbrev pub SixLeft : Type 0 → Type 0 → Type 0 → Type 0 → Type 0 → Type 0 → Type 0 → Type 0 → Type 0 → Type 0 → Type 0
SixLeft T R C D1 D2 D3 D4 D5 D6 H =
    Leave (GoingLeft FeedProgram FeedProgress D1) (GoingLeft T TableProgress D2) (GoingLeft R RobotProgress D3)
    (GoingLeft PressProgram PressProgress D4) (GoingLeft DepositProgram DepositProgress D5)
    (GoingLeft C CraneProgress D6) H

-- over an interlock a watch makes at most this many calls
abbrev pub MakesAtMost : {H : Type 0} → WatchesOf H → ℕ → Type 0
MakesAtMost {H = H} watches calls =
    (watch later : H) (got kept : PassView) (tries : ℕ) → got.seen ≡ []
    → watches watch got tries kept later → length (own_events kept.seen Watch) ≤ calls

-- An interlock that opens with a stamp up to the mark has room: for one change in each of the six machines' turns, and
-- for the watch's calls.
abbrev pub LeavesRoom : ℕ → ℕ → ℕ → Type 0
LeavesRoom mark limit calls = mark + 6 * limit + calls < last_stamp

-- a machine that no fault has stopped
abbrev pub Runs : {P S D : Type 0} → GoingOn P S D → Type 0
Runs w = w.machine.stopped ≡ None

-- one at the start of its program, by the full places of this state
abbrev pub IsAtStart : {P S D Sense Reading Act : Type 0} → Steps S Sense Reading Act → ModelState → GoingOn P S D
    → Type 0
IsAtStart t opening w = (w.machine.progress ≡ t.start opening) × Runs w

module _ {T R C D1 D2 D3 D4 D5 D6 H : Type 0} where
  -- none of the six ended so
  pub record NoneEnded (status : Status) (left : SixLeft T R C D1 D2 D3 D4 D5 D6 H) : Type 0 where
    pub feed : left.outputs.feed.status ≢ status
    pub table : left.outputs.table.status ≢ status
    pub robot : left.outputs.robot.status ≢ status
    pub press : left.outputs.press.status ≢ status
    pub deposit : left.outputs.deposit.status ≢ status
    pub crane : left.outputs.crane.status ≢ status

module _ {T R C D1 D2 D3 D4 D5 D6 : Type 0} where
  -- all six run
  pub record AllRun (w : GoingSix T R C D1 D2 D3 D4 D5 D6) : Type 0 where
    pub feed : Runs w.feed
    pub table : Runs w.table
    pub robot : Runs w.robot
    pub press : Runs w.press
    pub deposit : Runs w.deposit
    pub crane : Runs w.crane

-- the steps of the programs with potentiometers
abbrev pub by_table : {F : Type 0} {g : Ghosts F} → TableProgram F g
    → Steps TableProgress TableSense TableReading TableAct
by_table {g = g} t = table_steps t.turn.points (g.gives t.turn.gauge)

abbrev pub by_robot : {F1 F2 F3 : Type 0} {g1 : Ghosts F1} {g2 : Ghosts F2} {g3 : Ghosts F3}
    → RobotProgram F1 F2 F3 g1 g2 g3 → Steps RobotProgress RobotSense RobotReading RobotAct
by_robot {g1 = g1} {g2 = g2} {g3 = g3} p =
    robot_steps (robot_scales p.arm1.points p.arm2.points p.rotation.points)
    (gauges_of (g1.gives p.arm1.gauge) (g2.gives p.arm2.gauge) (g3.gives p.rotation.gauge))

abbrev pub by_crane : {F : Type 0} {g : Ghosts F} → CraneProgram F g
    → Steps CraneProgress CraneSense CraneReading CraneAct
by_crane {g = g} p = crane_steps p.gripper.points (g.gives p.gripper.gauge)

module _ {F1 F2 F3 F4 F5 : Type 0} {g1 : Ghosts F1} {g2 : Ghosts F2} {g3 : Ghosts F3} {g4 : Ghosts F4}
    {g5 : Ghosts F5} where
  module _ {D1 D2 D3 D4 D5 D6 : Type 0} where
    -- each is at its start
    pub record AreAtStart (opening : ModelState)
        (w : GoingSix (TableProgram F4 g4) (RobotProgram F1 F2 F3 g1 g2 g3) (CraneProgram F5 g5) D1 D2 D3 D4 D5 D6) :
        Type 0 where
      pub feed : IsAtStart feed_steps opening w.feed
      pub table : IsAtStart (by_table w.table.machine.program) opening w.table
      pub robot : IsAtStart (by_robot w.robot.machine.program) opening w.robot
      pub press : IsAtStart press_steps opening w.press
      pub deposit : IsAtStart deposit_steps opening w.deposit
      pub crane : IsAtStart (by_crane w.crane.machine.program) opening w.crane

    module _ {H S Fault : Type 0} (shows1 : Shows D1 Feed) (sets1 : Sets D1 Feed) (shows2 : Shows D2 Table)
        (sets2 : Sets D2 Table) (shows3 : Shows D3 Robot) (sets3 : Sets D3 Robot) (shows4 : Shows D4 Press)
        (sets4 : Sets D4 Press) (shows5 : Shows D5 Deposit) (sets5 : Sets D5 Deposit) (shows6 : Shows D6 Crane)
        (sets6 : Sets D6 Crane) (watches : WatchesOf H) (takes : S → Round → Result (Unit {0}) Fault → S → Type 0)
        (gate : Machine → GateOf) where
      -- what `run_renewed` says of them and a watch, from this opening, by what each promises
      abbrev pub RunsGoing : GoingSix (TableProgram F4 g4) (RobotProgram F1 F2 F3 g1 g2 g3)
          (CraneProgram F5 g5) D1 D2 D3 D4 D5 D6 → ℕ → ℕ → ℕ → H → ModelState → S
          → SixLeft (TableProgram F4 g4) (RobotProgram F1 F2 F3 g1 g2 g3) (CraneProgram F5 g5) D1 D2 D3 D4 D5 D6 H → S
          → Type 0
      RunsGoing w tries limit mark watch opening before left sink =
          RunsRenewed (going_gives (λ _. feed_steps) shows1 sets1) (going_gives by_table shows2 sets2)
          (going_gives by_robot shows3 sets3) (going_gives (λ _. press_steps) shows4 sets4)
          (going_gives (λ _. deposit_steps) shows5 sets5)
          (going_gives by_crane shows6 sets6) watches takes tries limit gate
          (λ o. o.status) (λ o. o.status) (λ o. o.status) (λ o. o.status) (λ o. o.status) (λ o. o.status)
          going_on going_on going_on going_on going_on going_on mark
          (record { workers = w; watch = watch; opening = opening; sink = before }) left sink

      -- from a start: in no round has a machine ended as refused (in each but the last all six ended fine)
      abbrev pub NoneIsRefusedThrough : GoingSix (TableProgram F4 g4) (RobotProgram F1 F2 F3 g1 g2 g3)
          (CraneProgram F5 g5) D1 D2 D3 D4 D5 D6 → Type 0
      NoneIsRefusedThrough w =
          (tries limit mark : ℕ) (watch : H) (opening : ModelState) (before sink : S)
          (left : SixLeft (TableProgram F4 g4) (RobotProgram F1 F2 F3 g1 g2 g3)
          (CraneProgram F5 g5) D1 D2 D3 D4 D5 D6 H)
          → IsStartState opening → AreAtStart opening w
          → RunsGoing w tries limit mark watch opening before left sink → NoneEnded Refused left

      -- if each interlock opens with a stamp that leaves room: in no round has a machine ended as worn
      abbrev pub NoneIsWornThrough : GoingSix (TableProgram F4 g4) (RobotProgram F1 F2 F3 g1 g2 g3)
          (CraneProgram F5 g5) D1 D2 D3 D4 D5 D6 → Type 0
      NoneIsWornThrough w =
          (tries limit mark calls : ℕ) (watch : H) (opening : ModelState) (before sink : S)
          (left : SixLeft (TableProgram F4 g4) (RobotProgram F1 F2 F3 g1 g2 g3)
          (CraneProgram F5 g5) D1 D2 D3 D4 D5 D6 H)
          → IsSound opening → AllRun w → opening.stamp ≤ mark → MakesAtMost watches calls
          → LeavesRoom mark limit calls
          → RunsGoing w tries limit mark watch opening before left sink → NoneEnded Worn left
