-- Runs by gauges. What a run depends on: the schedule, the state at its beginning, what the gauges give, and the calls
-- that get no memory.
use Rattle.std.specs.Prelude.{◌≡◌, ◌≢◌, ◌↔◌, ℕ, ℤ, List, [], ◌∷◌, All, Some, None, Ok, Err, ⊤}
use Rattle.cell_rules.specs.Types.{Machine, Table, Robot, Crane, Call, journal_of}
use Rattle.cell_sensors.specs.Names.{Pair, IsOnCurve}
use Rattle.cell_sensors.specs.declared.sense.CraneSense.{CraneSense}
use Rattle.cell_sensors.specs.declared.sense.RobotSense.{RobotSense}
use Rattle.cell_sensors.specs.declared.sense.TableSense.{TableSense}
use Rattle.cell_belts_crane.specs.declared.crane.CraneReading.{CraneReading}
use Rattle.cell_robot.specs.declared.robot.RobotReading.{RobotReading}
use Rattle.cell_table_press.specs.declared.table.TableReading.{TableReading}
use Rattle.cell_rules.specs.Names.{ModelState}
use Rattle.cell_rules.specs.declared.heard.LineFault.{LineFault}
use Rattle.cell_notes.specs.declared.run_record.RunRecord.{RunRecord}
use Rattle.cell_notes.specs.declared.status.Status.TheVariants.{Fine}
use Rattle.cell_notes.specs.declared.schedule.Turn.{Turn}
use Rattle.cell_parts.specs.Axes.{CellScales, AreCellScales}
use Rattle.cell_plant.specs.Cells.{TellsRun}
use Rattle.cell_plant.specs.CellStates.{CellState}
use Rattle.cell_plant.specs.Machines.{CellGauges, on_curves, steps_by}
use Rattle.cell_plant.specs.Runs.{Step, IsRun, IsRunBy, end_of}

-- a gauge gives at most one position at a raw value
abbrev pub GivesOne : (ℕ → ℤ → Type 0) → Type 0
GivesOne gives = (raw : ℕ) (v w : ℤ) → gives raw v → gives raw w → w ≡ v

pub record GiveOne (gives : CellGauges) : Type 0 where
  pub arm1 : GivesOne gives.arm1
  pub arm2 : GivesOne gives.arm2
  pub rotation : GivesOne gives.rotation
  pub turn : GivesOne gives.turn
  pub gripper : GivesOne gives.gripper

-- no call was out of memory
abbrev pub HadMemory : List Step → Type 0
HadMemory [] = ⊤
HadMemory (s ∷ ss) = ((call : Call) (fault : LineFault) → s.asked ≢ Some (call, Err fault)) × HadMemory ss

-- by gauges that give one position, a schedule has one run from a state, if no call is out of memory
abbrev pub HasOneRun : CellScales → CellGauges → Type 0
HasOneRun c gives =
    (w : CellState) (turns : List Turn) (steps others : List Step)
    → AreCellScales c → GiveOne gives → IsRunBy c gives w turns steps → IsRunBy c gives w turns others
    → HadMemory steps → HadMemory others → others ≡ steps

-- two records say the same, but for what memory their journals have
pub record SayTheSame (r s : RunRecord) : Type 0 where
  pub start : s.start ≡ r.start
  pub counts : s.counts ≡ r.counts
  pub status : s.status ≡ r.status
  pub journals : (m : Machine) → journal_of s.journals m ≡ journal_of r.journals m
  pub end : s.end ≡ r.end
  pub axes : s.axes ≡ r.axes

-- so records of runs of one schedule from one opening, in which no machine was stopped, say the same
abbrev pub SaysOneThing : CellScales → CellGauges → Type 0
SaysOneThing c gives =
    (opening : ModelState) (turns : List Turn) (r s : RunRecord)
    → AreCellScales c → GiveOne gives → TellsRun c gives opening turns r → TellsRun c gives opening turns s
    → All (λ status. status ≡ Fine) r.status → All (λ status. status ≡ Fine) s.status → SayTheSame r s

-- if no machine is stopped at its end, no call was out of memory; so there is one run with no machine stopped at its
-- end
pub record RunsAreOne (c : CellScales) (gives : CellGauges) : Type 0 where
  pub one : HasOneRun c gives
  pub fine : (w : CellState) (turns : List Turn) (steps : List Step)
      → IsRunBy c gives w turns steps → ((m : Machine) → ((end_of w steps).side m).stopped ≡ None) → HadMemory steps
  pub told : SaysOneThing c gives

-- each machine reads by its own gauges
pub record ReadsByGauges (c : CellScales) (gives : CellGauges) : Type 0 where
  pub turn : (s : TableSense) (r : TableReading) → (steps_by c gives Table).senses s (Ok r) → gives.turn s.turn r.turn
  pub gripper : (s : CraneSense) (r : CraneReading) → (steps_by c gives Crane).senses s (Ok r)
      → gives.gripper s.gripper r.gripper
  pub arm1 : (s : RobotSense) (r : RobotReading) → (steps_by c gives Robot).senses s (Ok r) → gives.arm1 s.arm1 r.arm1
  pub arm2 : (s : RobotSense) (r : RobotReading) → (steps_by c gives Robot).senses s (Ok r) → gives.arm2 s.arm2 r.arm2
  pub rotation : (s : RobotSense) (r : RobotReading) → (steps_by c gives Robot).senses s (Ok r)
      → gives.rotation s.rotation r.rotation

-- gauges on five curves, in order
pub record ReadsByCurves (arm1 arm2 rotation turn gripper : List Pair) (raw : ℕ) (v : ℤ) : Type 0 where
  pub first : (on_curves (arm1 ∷ arm2 ∷ rotation ∷ turn ∷ gripper ∷ [])).arm1 raw v ↔ IsOnCurve arm1 raw v
  pub second : (on_curves (arm1 ∷ arm2 ∷ rotation ∷ turn ∷ gripper ∷ [])).arm2 raw v ↔ IsOnCurve arm2 raw v
  pub third : (on_curves (arm1 ∷ arm2 ∷ rotation ∷ turn ∷ gripper ∷ [])).rotation raw v ↔ IsOnCurve rotation raw v
  pub fourth : (on_curves (arm1 ∷ arm2 ∷ rotation ∷ turn ∷ gripper ∷ [])).turn raw v ↔ IsOnCurve turn raw v
  pub fifth : (on_curves (arm1 ∷ arm2 ∷ rotation ∷ turn ∷ gripper ∷ [])).gripper raw v ↔ IsOnCurve gripper raw v

-- a run by gauges is a run by readings near the lines, and machines read by their gauges
pub record RunsAreByGauges (c : CellScales) (gives : CellGauges) : Type 0 where
  pub reads : ReadsByGauges c gives
  pub curves : (arm1 arm2 rotation turn gripper : List Pair) (raw : ℕ) (v : ℤ)
      → ReadsByCurves arm1 arm2 rotation turn gripper raw v
  pub near : (w : CellState) (turns : List Turn) (steps : List Step) → IsRunBy c gives w turns steps
      → IsRun c w turns steps
