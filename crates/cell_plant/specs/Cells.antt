-- The cell and its machines.
use Rattle.std.specs.Prelude.{◌≡◌, List}
use Rattle.cell_sensors.specs.declared.gauge.Gauge.{Ghosts}
use Rattle.cell_sensors.specs.Names.{RobotScales}
use Rattle.cell_rules.specs.Names.{ModelState, IsLegal, after}
use Rattle.cell_notes.specs.declared.run_record.RunRecord.{RunRecord}
use Rattle.cell_notes.specs.declared.schedule.Turn.{Turn}
use Rattle.cell_unit.specs.Sides.{Side, side_of}
use Rattle.cell_parts.specs.Axes.{CellScales}
use Rattle.cell_robot.specs.Names.{robot_scales}
use Rattle.cell_robot.specs.declared.robot.RobotProgram.{RobotProgram}
use Rattle.cell_plant.specs.declared.cell.Cell.{Cell}
use Rattle.cell_plant.specs.declared.watch.WatchProgress.{WatchProgress}
use Rattle.cell_plant.specs.CellStates.{Sides, sides_at_start, cell_at_start}
use Rattle.cell_plant.specs.Records.{IsRecordOf, events_in}
use Rattle.cell_plant.specs.Machines.{CellGauges}
use Rattle.cell_plant.specs.Runs.{Step, IsRunBy, end_of}
use Rattle.cell_plant.specs.Safety.{IsSafeRun}
use Rattle.cell_plant.specs.Watch.{watch_at_start}

-- the points of its five potentiometers
abbrev pub cell_scales : {F1 F2 F3 F4 F5 : Type 0} {g1 : Ghosts F1} {g2 : Ghosts F2} {g3 : Ghosts F3} {g4 : Ghosts F4}
    {g5 : Ghosts F5} → Cell F1 F2 F3 F4 F5 g1 g2 g3 g4 g5 → CellScales
cell_scales cell =
    record {
      arm1 = cell.robot.part.scale.arm1;
      arm2 = cell.robot.part.scale.arm2;
      rotation = cell.robot.part.scale.rotation;
      turn = cell.table.part.scale;
      gripper = cell.crane.part.scale;
    }

-- its five gauges
pub record FiveGauges (F1 F2 F3 F4 F5 : Type 0) : Type 0 where
  pub arm1 : F1
  pub arm2 : F2
  pub rotation : F3
  pub turn : F4
  pub gripper : F5

abbrev pub five_gauges : {F1 F2 F3 F4 F5 : Type 0} {g1 : Ghosts F1} {g2 : Ghosts F2} {g3 : Ghosts F3} {g4 : Ghosts F4}
    {g5 : Ghosts F5} → Cell F1 F2 F3 F4 F5 g1 g2 g3 g4 g5 → FiveGauges F1 F2 F3 F4 F5
five_gauges cell =
    record {
      arm1 = cell.robot.controller.program.arm1.gauge;
      arm2 = cell.robot.controller.program.arm2.gauge;
      rotation = cell.robot.controller.program.rotation.gauge;
      turn = cell.table.controller.program.turn.gauge;
      gripper = cell.crane.controller.program.gripper.gauge;
    }

-- what they may give at a raw value
abbrev pub cell_gauges : {F1 F2 F3 F4 F5 : Type 0} {g1 : Ghosts F1} {g2 : Ghosts F2} {g3 : Ghosts F3} {g4 : Ghosts F4}
    {g5 : Ghosts F5} → Cell F1 F2 F3 F4 F5 g1 g2 g3 g4 g5 → CellGauges
cell_gauges {g1 = g1} {g2 = g2} {g3 = g3} {g4 = g4} {g5 = g5} cell =
    record {
      arm1 = g1.gives cell.robot.controller.program.arm1.gauge;
      arm2 = g2.gives cell.robot.controller.program.arm2.gauge;
      rotation = g3.gives cell.robot.controller.program.rotation.gauge;
      turn = g4.gives cell.table.controller.program.turn.gauge;
      gripper = g5.gives cell.crane.controller.program.gripper.gauge;
    }

-- the points of the robot's calibrations
abbrev pub points_of : {F1 F2 F3 : Type 0} {g1 : Ghosts F1} {g2 : Ghosts F2} {g3 : Ghosts F3}
    → RobotProgram F1 F2 F3 g1 g2 g3 → RobotScales
points_of robot = robot_scales robot.arm1.points robot.arm2.points robot.rotation.points

-- its six machines, and the watch
abbrev pub sides_of : {F1 F2 F3 F4 F5 : Type 0} {g1 : Ghosts F1} {g2 : Ghosts F2} {g3 : Ghosts F3} {g4 : Ghosts F4}
    {g5 : Ghosts F5} → Cell F1 F2 F3 F4 F5 g1 g2 g3 g4 g5 → Side WatchProgress (Unit {0}) → Sides
sides_of cell watch =
    record {
      feed = side_of cell.feed.controller.progress cell.feed.controller.stopped cell.feed.part.belt;
      table = side_of cell.table.controller.progress cell.table.controller.stopped cell.table.part.plant;
      robot = side_of cell.robot.controller.progress cell.robot.controller.stopped cell.robot.part.plant;
      press = side_of cell.press.controller.progress cell.press.controller.stopped cell.press.part;
      deposit = side_of cell.deposit.controller.progress cell.deposit.controller.stopped cell.deposit.part.belt;
      crane = side_of cell.crane.controller.progress cell.crane.controller.stopped cell.crane.part.plant;
      watch = watch;
    }

-- each potentiometer has the points of its calibration
pub record IsFitted {F1 F2 F3 F4 F5 : Type 0} {g1 : Ghosts F1} {g2 : Ghosts F2} {g3 : Ghosts F3} {g4 : Ghosts F4}
    {g5 : Ghosts F5} (cell : Cell F1 F2 F3 F4 F5 g1 g2 g3 g4 g5) : Type 0 where
  pub arm1 : cell.robot.part.scale.arm1 ≡ cell.robot.controller.program.arm1.points
  pub arm2 : cell.robot.part.scale.arm2 ≡ cell.robot.controller.program.arm2.points
  pub rotation : cell.robot.part.scale.rotation ≡ cell.robot.controller.program.rotation.points
  pub turn : cell.table.part.scale ≡ cell.table.controller.program.turn.points
  pub gripper : cell.crane.part.scale ≡ cell.crane.controller.program.gripper.points

-- a cell that was made for a state: each controller is at the beginning of its program, and each part at its start
pub record IsMadeFor {F1 F2 F3 F4 F5 : Type 0} {g1 : Ghosts F1} {g2 : Ghosts F2} {g3 : Ghosts F3} {g4 : Ghosts F4}
    {g5 : Ghosts F5} (s : ModelState) (cell : Cell F1 F2 F3 F4 F5 g1 g2 g3 g4 g5) : Type 0 where
  pub begins : sides_of cell watch_at_start ≡ sides_at_start s
  pub fitted : IsFitted cell

-- A record is of a run of a schedule from an opening, by what the gauges may give. Nothing collides in that run, and
-- its events are a legal history that leads to its end.
pub record TellsRun (c : CellScales) (gives : CellGauges) (opening : ModelState) (turns : List Turn) (r : RunRecord)
    : Type 0 where
  pub steps : List Step
  pub run : IsRunBy c gives (cell_at_start opening) turns steps
  pub told : IsRecordOf opening steps (end_of (cell_at_start opening) steps) r
  pub safe : IsSafeRun (cell_at_start opening) steps
  pub legal : IsLegal opening (events_in steps)
  pub reached : (end_of (cell_at_start opening) steps).interlock ≡ after opening (events_in steps)
