-- What a record says of six workers with devices of your own, each by the program of its machine.
use Rattle.std.specs.Prelude.{◌≡◌, ◌≢◌, ℕ, List, [], ◌∷◌, Option, None, Some}
use Rattle.cell_rules.specs.Types.{Machine, Feed, Table, Robot, Press, Deposit, Crane, Event, journal_of}
use Rattle.cell_sensors.specs.declared.gauge.Gauge.{Ghosts}
use Rattle.cell_rules.specs.Names.{ModelState, IsLegal, IsStartState, after, noted, own_events, Waits}
use Rattle.cell_rules.specs.Names.{LawfulThroughout, IsAudited}
use Rattle.cell_interlock.specs.Views.{PassView, InterlockView}
use Rattle.cell_interlock.specs.Fresh.{fresh_pass}
use Rattle.cell_control.specs.Names.{Steps}
use Rattle.cell_control.specs.declared.commands.Commands.{Commands}
use Rattle.cell_notes.specs.declared.run_record.RunRecord.{RunRecord}
use Rattle.cell_notes.specs.declared.status.Status.{Status}
use Rattle.cell_notes.specs.declared.status.Status.TheVariants.{Fine, Refused}
use Rattle.cell_parts.specs.Axes.{CellScales}
use Rattle.cell_belts_crane.specs.Names.{crane_steps, deposit_steps, feed_steps}
use Rattle.cell_belts_crane.specs.declared.crane.CraneProgram.{CraneProgram}
use Rattle.cell_belts_crane.specs.declared.deposit.DepositProgram.{DepositProgram}
use Rattle.cell_belts_crane.specs.declared.feed.FeedProgram.{FeedProgram}
use Rattle.cell_robot.specs.Names.{gauges_of, robot_scales, robot_steps}
use Rattle.cell_robot.specs.declared.robot.RobotProgram.{RobotProgram}
use Rattle.cell_table_press.specs.Names.{press_steps, table_steps}
use Rattle.cell_table_press.specs.declared.press.PressProgram.{PressProgram}
use Rattle.cell_table_press.specs.declared.table.TableProgram.{TableProgram}
use Rattle.cell_plant.specs.Names.{CellGauges, steps_by, NoneRefused}
use Rattle.cell_threads.specs.Promises.{GivesOf}
use Rattle.cell_threads.specs.Results.{SixResults, outputs_in, seen_in}
use Rattle.cell_threads.specs.Six.{TellsSix}
use Rattle.cell_threads.specs.Workers.{GateOf}
use Rattle.cell_threads.specs.declared.six_of.SixOf.{SixOf}
use Rattle.cell_threads.specs.declared.six.SixRecord.{SixRecord}
use Rattle.cell_renewal.specs.WiredTeams.{Shows, Sets}
use Rattle.cell_renewal.specs.WiredWorkers.{IsWiredResult, wired_moment}
use Rattle.cell_renewal.specs.declared.wired_worker.WiredOutput.{WiredOutput}
use Rattle.cell_renewal.specs.declared.wired_worker.WiredWorker.{WiredWorker}

-- what a `WiredWorker` promises to give back (its `gives_back`), by the steps of its program and by its devices
abbrev pub wired_gives : {P D S Sense Reading Act : Type 0} → (P → Steps S Sense Reading Act) →
    (D → Option Sense → D → Type 0) → (D → Commands Act → D → Type 0) → GivesOf (WiredWorker P D) (WiredOutput D)
wired_gives steps shows sets w pass tries gate limit r =
    IsWiredResult tries (steps w.program) shows sets gate limit
    (wired_moment pass ((steps w.program).start w.opening) None w.devices 0 0) r.pass r.output.turns
    r.output.missed r.output.status r.output.devices

-- a machine's devices when its worker began, and what is left of it: by its cycles, from the start of its program, it
-- has come to this pass, and ended so
abbrev pub IsWiredEnd : {D : Type 0} → CellScales → CellGauges → (m : Machine) → Shows D m → Sets D m → ℕ → ℕ →
    GateOf → InterlockView → D → PassView → WiredOutput D → Type 0
IsWiredEnd c gives m shows sets tries limit gate i first kept left =
    IsWiredResult tries (steps_by c gives m) shows sets gate limit
    (wired_moment (fresh_pass i m) ((steps_by c gives m).start i.opening) None first 0 0) kept left.turns
    left.missed left.status left.devices

-- the record of six workers with devices
abbrev pub WiredRecord : Type 0 → Type 0 → Type 0 → Type 0 → Type 0 → Type 0 → Type 0
WiredRecord D1 D2 D3 D4 D5 D6 =
    SixRecord (WiredOutput D1) (WiredOutput D2) (WiredOutput D3) (WiredOutput D4) (WiredOutput D5)
    (WiredOutput D6)

-- no machine ended as refused
pub record NoneIsRefused {D1 D2 D3 D4 D5 D6 : Type 0} (r : WiredRecord D1 D2 D3 D4 D5 D6) : Type 0 where
  pub feed : r.outputs.feed.status ≢ Refused
  pub table : r.outputs.table.status ≢ Refused
  pub robot : r.outputs.robot.status ≢ Refused
  pub press : r.outputs.press.status ≢ Refused
  pub deposit : r.outputs.deposit.status ≢ Refused
  pub crane : r.outputs.crane.status ≢ Refused

module _ {D1 D2 D3 D4 D5 D6 : Type 0} (c : CellScales) (gives : CellGauges)
    (shows1 : Shows D1 Feed) (sets1 : Sets D1 Feed) (shows2 : Shows D2 Table) (sets2 : Sets D2 Table)
    (shows3 : Shows D3 Robot) (sets3 : Sets D3 Robot) (shows4 : Shows D4 Press) (sets4 : Sets D4 Press)
    (shows5 : Shows D5 Deposit) (sets5 : Sets D5 Deposit) (shows6 : Shows D6 Crane) (sets6 : Sets D6 Crane) where
  -- A record is of six workers, one for each machine, over one interlock. It gives the turns of each with its devices,
  -- from its program's start. There is one history, lawful throughout: each has seen a prefix of it, with all events of
  -- its machine; the journals are those of this history, and the end is the state after it.
  pub record TellsWired (devices : SixOf D1 D2 D3 D4 D5 D6) (opening : ModelState) (tries limit : ℕ)
      (gate : Machine → GateOf) (r : WiredRecord D1 D2 D3 D4 D5 D6) : Type 0 where
    pub interlock : InterlockView
    pub opened : interlock.opening ≡ opening
    pub results : SixResults (WiredOutput D1) (WiredOutput D2) (WiredOutput D3) (WiredOutput D4)
        (WiredOutput D5) (WiredOutput D6)
    pub outputs : r.outputs ≡ outputs_in results
    pub feed : IsWiredEnd c gives Feed shows1 sets1 tries limit (gate Feed) interlock devices.feed results.feed.pass
        results.feed.output
    pub table : IsWiredEnd c gives Table shows2 sets2 tries limit (gate Table) interlock devices.table
        results.table.pass results.table.output
    pub robot : IsWiredEnd c gives Robot shows3 sets3 tries limit (gate Robot) interlock devices.robot
        results.robot.pass results.robot.output
    pub press : IsWiredEnd c gives Press shows4 sets4 tries limit (gate Press) interlock devices.press
        results.press.pass results.press.output
    pub deposit : IsWiredEnd c gives Deposit shows5 sets5 tries limit (gate Deposit) interlock devices.deposit
        results.deposit.pass results.deposit.output
    pub crane : IsWiredEnd c gives Crane shows6 sets6 tries limit (gate Crane) interlock devices.crane
        results.crane.pass results.crane.output
    pub history : List Event
    pub lawful : LawfulThroughout opening history
    pub seen : (m : Machine) → Waits m (seen_in results m) history
    pub start : r.start ≡ opening
    pub journals : (m : Machine) → journal_of r.journals m ≡ noted opening (seen_in results m) m
    pub audited : IsAudited opening (journal_of r.journals) (Some r.end) history
    pub end : r.end ≡ after opening history

  -- what each of the six left, by its machine's own name; and what the one history is
  pub record IsToldWired (devices : SixOf D1 D2 D3 D4 D5 D6) (opening : ModelState) (tries limit : ℕ)
      (gate : Machine → GateOf) (r : WiredRecord D1 D2 D3 D4 D5 D6)
      (k : TellsWired devices opening tries limit gate r) : Type 0 where
    pub feed : IsWiredResult tries (steps_by c gives Feed) shows1 sets1 (gate Feed) limit
        (wired_moment (fresh_pass k.interlock Feed) ((steps_by c gives Feed).start k.interlock.opening) None
        devices.feed 0 0) k.results.feed.pass r.outputs.feed.turns r.outputs.feed.missed r.outputs.feed.status
        r.outputs.feed.devices
    pub table : IsWiredResult tries (steps_by c gives Table) shows2 sets2 (gate Table) limit
        (wired_moment (fresh_pass k.interlock Table) ((steps_by c gives Table).start k.interlock.opening) None
        devices.table 0 0) k.results.table.pass r.outputs.table.turns r.outputs.table.missed r.outputs.table.status
        r.outputs.table.devices
    pub robot : IsWiredResult tries (steps_by c gives Robot) shows3 sets3 (gate Robot) limit
        (wired_moment (fresh_pass k.interlock Robot) ((steps_by c gives Robot).start k.interlock.opening) None
        devices.robot 0 0) k.results.robot.pass r.outputs.robot.turns r.outputs.robot.missed r.outputs.robot.status
        r.outputs.robot.devices
    pub press : IsWiredResult tries (steps_by c gives Press) shows4 sets4 (gate Press) limit
        (wired_moment (fresh_pass k.interlock Press) ((steps_by c gives Press).start k.interlock.opening) None
        devices.press 0 0) k.results.press.pass r.outputs.press.turns r.outputs.press.missed r.outputs.press.status
        r.outputs.press.devices
    pub deposit : IsWiredResult tries (steps_by c gives Deposit) shows5 sets5 (gate Deposit) limit
        (wired_moment (fresh_pass k.interlock Deposit) ((steps_by c gives Deposit).start k.interlock.opening) None
        devices.deposit 0 0) k.results.deposit.pass r.outputs.deposit.turns r.outputs.deposit.missed
        r.outputs.deposit.status r.outputs.deposit.devices
    pub crane : IsWiredResult tries (steps_by c gives Crane) shows6 sets6 (gate Crane) limit
        (wired_moment (fresh_pass k.interlock Crane) ((steps_by c gives Crane).start k.interlock.opening) None
        devices.crane 0 0) k.results.crane.pass r.outputs.crane.turns r.outputs.crane.missed r.outputs.crane.status
        r.outputs.crane.devices
    pub opened : k.interlock.opening ≡ opening
    pub legal : IsLegal opening k.history
    pub own : (m : Machine) → own_events k.history m ≡ own_events (seen_in k.results m) m
    pub journals : (m : Machine) → journal_of r.journals m ≡ noted opening (seen_in k.results m) m

  abbrev pub WiredTurnsAreTold : (Machine → GateOf) → Type 0
  WiredTurnsAreTold gate =
      (devices : SixOf D1 D2 D3 D4 D5 D6) (opening : ModelState) (tries limit : ℕ)
      (r : WiredRecord D1 D2 D3 D4 D5 D6) (k : TellsWired devices opening tries limit gate r)
      → IsToldWired devices opening tries limit gate r k

  -- so none of the six ended as refused
  abbrev pub NoneRecordedRefused : (Machine → GateOf) → Type 0
  NoneRecordedRefused gate =
      (devices : SixOf D1 D2 D3 D4 D5 D6) (opening : ModelState) (tries limit : ℕ)
      (r : WiredRecord D1 D2 D3 D4 D5 D6) → IsStartState opening
      → TellsWired devices opening tries limit gate r → NoneIsRefused r

-- six workers with devices, by the six programs; those of table, robot and crane have types of their own
abbrev pub WiredSix : Type 0 → Type 0 → Type 0 → Type 0 → Type 0 → Type 0 → Type 0 → Type 0 → Type 0 → Type 0
WiredSix T R C D1 D2 D3 D4 D5 D6 =
    SixOf (WiredWorker FeedProgram D1) (WiredWorker T D2) (WiredWorker R D3)
    (WiredWorker PressProgram D4) (WiredWorker DepositProgram D5) (WiredWorker C D6)

module _ {F1 F2 F3 F4 F5 : Type 0} {g1 : Ghosts F1} {g2 : Ghosts F2} {g3 : Ghosts F3} {g4 : Ghosts F4}
    {g5 : Ghosts F5} {D1 D2 D3 D4 D5 D6 : Type 0} where
  -- their devices, the points of their calibrations, and what their gauges may give
  abbrev pub devices_of : WiredSix (TableProgram F4 g4) (RobotProgram F1 F2 F3 g1 g2 g3) (CraneProgram F5 g5) D1 D2
      D3 D4 D5 D6 → SixOf D1 D2 D3 D4 D5 D6
  devices_of w = record {
    feed = w.feed.devices;
    table = w.table.devices;
    robot = w.robot.devices;
    press = w.press.devices;
    deposit =
        w.deposit.devices;
    crane = w.crane.devices;
  }

  abbrev pub wired_scales : WiredSix (TableProgram F4 g4) (RobotProgram F1 F2 F3 g1 g2 g3) (CraneProgram F5 g5) D1 D2
      D3 D4 D5 D6 → CellScales
  wired_scales w =
      record {
        arm1 = w.robot.program.arm1.points;
        arm2 = w.robot.program.arm2.points;
        rotation = w.robot.program.rotation.points;
        turn = w.table.program.turn.points;
        gripper = w.crane.program.gripper.points;
      }

  abbrev pub wired_gauges : WiredSix (TableProgram F4 g4) (RobotProgram F1 F2 F3 g1 g2 g3) (CraneProgram F5 g5) D1 D2
      D3 D4 D5 D6 → CellGauges
  wired_gauges w =
      record {
        arm1 = g1.gives w.robot.program.arm1.gauge;
        arm2 = g2.gives w.robot.program.arm2.gauge;
        rotation = g3.gives w.robot.program.rotation.gauge;
        turn = g4.gives w.table.program.turn.gauge;
        gripper = g5.gives w.crane.program.gripper.gauge;
      }

  -- all begin with this state
  pub record BeginWith (opening : ModelState)
      (w : WiredSix (TableProgram F4 g4) (RobotProgram F1 F2 F3 g1 g2 g3) (CraneProgram F5 g5) D1 D2 D3 D4 D5 D6) :
      Type 0 where
    pub feed : w.feed.opening ≡ opening
    pub table : w.table.opening ≡ opening
    pub robot : w.robot.opening ≡ opening
    pub press : w.press.opening ≡ opening
    pub deposit : w.deposit.opening ≡ opening
    pub crane : w.crane.opening ≡ opening

  module _ (shows1 : Shows D1 Feed) (sets1 : Sets D1 Feed) (shows2 : Shows D2 Table) (sets2 : Sets D2 Table)
      (shows3 : Shows D3 Robot) (sets3 : Sets D3 Robot) (shows4 : Shows D4 Press) (sets4 : Sets D4 Press)
      (shows5 : Shows D5 Deposit) (sets5 : Sets D5 Deposit) (shows6 : Shows D6 Crane) (sets6 : Sets D6 Crane) where
    -- what `run_workers` says of them, by what each promises
    abbrev pub TellsSixWired : WiredSix (TableProgram F4 g4) (RobotProgram F1 F2 F3 g1 g2 g3) (CraneProgram F5 g5) D1
        D2 D3 D4 D5 D6 → ModelState → ℕ → ℕ → (Machine → GateOf) → WiredRecord D1 D2 D3 D4 D5 D6 → Type 0
    TellsSixWired w opening tries limit gate r =
        TellsSix (wired_gives (λ _. feed_steps) shows1 sets1)
        (wired_gives (λ (t : TableProgram F4 g4). table_steps t.turn.points (g4.gives t.turn.gauge)) shows2 sets2)
        (wired_gives (λ (p : RobotProgram F1 F2 F3 g1 g2 g3). robot_steps
        (robot_scales p.arm1.points p.arm2.points p.rotation.points)
        (gauges_of (g1.gives p.arm1.gauge) (g2.gives p.arm2.gauge) (g3.gives p.rotation.gauge))) shows3 sets3)
        (wired_gives (λ _. press_steps) shows4 sets4)
        (wired_gives (λ _. deposit_steps) shows5 sets5)
        (wired_gives (λ (p : CraneProgram F5 g5). crane_steps p.gripper.points (g5.gives p.gripper.gauge)) shows6 sets6)
        w opening tries limit gate r

    -- so their record tells their turns
    abbrev pub WiredRecordsTell : WiredSix (TableProgram F4 g4) (RobotProgram F1 F2 F3 g1 g2 g3) (CraneProgram F5 g5)
        D1 D2 D3 D4 D5 D6 → (Machine → GateOf) → Type 0
    WiredRecordsTell w gate =
        (opening : ModelState) (tries limit : ℕ) (r : WiredRecord D1 D2 D3 D4 D5 D6) → BeginWith opening w →
        TellsSixWired w opening tries limit gate r
        → TellsWired (wired_scales w) (wired_gauges w) shows1 sets1 shows2 sets2 shows3 sets3 shows4 sets4 shows5
        sets5 shows6 sets6 (devices_of w) opening tries limit gate r

-- ---- an example

-- a refusal has stopped the press
abbrev pub press_refused : List Status
press_refused = Fine ∷ Fine ∷ Fine ∷ Refused ∷ Fine ∷ Fine ∷ Fine ∷ []

-- no record with these statuses says that none is refused
abbrev pub RefusedIsFound : Type 0
RefusedIsFound = (r : RunRecord) → r.status ≡ press_refused → ¬ NoneRefused r
