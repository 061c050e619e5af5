-- The machines of the cell, looked up by name: what each consists of. The watch has nothing to move.
use Rattle.std.specs.Prelude.{ℕ, ℤ, List, [], slice_index_or}
use Rattle.cell_rules.specs.Types.{Machine, Feed, Table, Robot, Press, Deposit, Crane, Watch}
use Rattle.cell_sensors.specs.Names.{IsReading, Pair, IsOnCurve}
use Rattle.cell_sensors.specs.declared.sense.CraneSense.{CraneSense}
use Rattle.cell_sensors.specs.declared.sense.DepositSense.{DepositSense}
use Rattle.cell_sensors.specs.declared.sense.FeedSense.{FeedSense}
use Rattle.cell_sensors.specs.declared.sense.PressSense.{PressSense}
use Rattle.cell_sensors.specs.declared.sense.RobotSense.{RobotSense}
use Rattle.cell_sensors.specs.declared.sense.TableSense.{TableSense}
use Rattle.cell_devices.specs.declared.act.CraneAct.{CraneAct}
use Rattle.cell_devices.specs.declared.act.DepositAct.{DepositAct}
use Rattle.cell_devices.specs.declared.act.FeedAct.{FeedAct}
use Rattle.cell_devices.specs.declared.act.PressAct.{PressAct}
use Rattle.cell_devices.specs.declared.act.RobotAct.{RobotAct}
use Rattle.cell_devices.specs.declared.act.TableAct.{TableAct}
use Rattle.cell_control.specs.Names.{Rig, Steps}
use Rattle.cell_belts_crane.specs.Names.{crane_steps, deposit_steps, feed_steps}
use Rattle.cell_belts_crane.specs.declared.crane.CraneProgress.{CraneProgress}
use Rattle.cell_belts_crane.specs.declared.crane.CraneReading.{CraneReading}
use Rattle.cell_belts_crane.specs.declared.deposit.DepositProgress.{DepositProgress}
use Rattle.cell_belts_crane.specs.declared.feed.FeedProgress.{FeedProgress}
use Rattle.cell_robot.specs.Names.{RobotGauges, gauges_of, robot_steps}
use Rattle.cell_robot.specs.declared.robot.RobotProgress.{RobotProgress}
use Rattle.cell_robot.specs.declared.robot.RobotReading.{RobotReading}
use Rattle.cell_table_press.specs.Names.{press_steps, table_steps}
use Rattle.cell_table_press.specs.declared.press.PressProgress.{PressProgress}
use Rattle.cell_table_press.specs.declared.table.TableProgress.{TableProgress}
use Rattle.cell_table_press.specs.declared.table.TableReading.{TableReading}
use Rattle.cell_parts.specs.Names.{CellScales, robot_points, feed_rig, table_rig, robot_rig, press_rig, deposit_rig}
use Rattle.cell_parts.specs.Names.{crane_rig}
use Rattle.cell_parts.specs.declared.axis.Axis.{Axis}
use Rattle.cell_parts.specs.declared.belt.Belt.{Belt}
use Rattle.cell_parts.specs.declared.plant.TablePlant.{TablePlant}
use Rattle.cell_parts.specs.declared.plant.RobotPlant.{RobotPlant}
use Rattle.cell_parts.specs.declared.plant.CranePlant.{CranePlant}
use Rattle.cell_plant.specs.declared.watch.WatchProgress.{WatchProgress}
use Rattle.cell_plant.specs.Watch.{watch_steps, watch_rig}

-- its steps with their notes
abbrev pub ProgressOf : Machine → Type 0
ProgressOf Feed = FeedProgress
ProgressOf Table = TableProgress
ProgressOf Robot = RobotProgress
ProgressOf Press = PressProgress
ProgressOf Deposit = DepositProgress
ProgressOf Crane = CraneProgress
ProgressOf Watch = WatchProgress

-- what its sensors show, and what the checked sensors say
abbrev pub SenseOf : Machine → Type 0
SenseOf Feed = FeedSense
SenseOf Table = TableSense
SenseOf Robot = RobotSense
SenseOf Press = PressSense
SenseOf Deposit = DepositSense
SenseOf Crane = CraneSense
SenseOf Watch = Unit {0}

abbrev pub ReadingOf : Machine → Type 0
ReadingOf Feed = FeedSense
ReadingOf Table = TableReading
ReadingOf Robot = RobotReading
ReadingOf Press = PressSense
ReadingOf Deposit = DepositSense
ReadingOf Crane = CraneReading
ReadingOf Watch = Unit {0}

-- the commands to its actuators
abbrev pub ActOf : Machine → Type 0
ActOf Feed = FeedAct
ActOf Table = TableAct
ActOf Robot = RobotAct
ActOf Press = PressAct
ActOf Deposit = DepositAct
ActOf Crane = CraneAct
ActOf Watch = Unit {0}

-- its part of the plant
abbrev pub PartOf : Machine → Type 0
PartOf Feed = Belt
PartOf Table = TablePlant
PartOf Robot = RobotPlant
PartOf Press = Axis
PartOf Deposit = Belt
PartOf Crane = CranePlant
PartOf Watch = Unit {0}

-- what the gauges of the five potentiometers may give at a raw value
pub record CellGauges : Type 1 where
  pub arm1 : ℕ → ℤ → Type 0
  pub arm2 : ℕ → ℤ → Type 0
  pub rotation : ℕ → ℤ → Type 0
  pub turn : ℕ → ℤ → Type 0
  pub gripper : ℕ → ℤ → Type 0

abbrev pub robot_gauges : CellGauges → RobotGauges
robot_gauges gives = gauges_of gives.arm1 gives.arm2 gives.rotation

-- gauges that may give any position near their lines
abbrev pub any_near : CellScales → CellGauges
any_near c =
    record {
      arm1 = IsReading c.arm1;
      arm2 = IsReading c.arm2;
      rotation = IsReading c.rotation;
      turn = IsReading c.turn;
      gripper = IsReading c.gripper;
    }

-- gauges on curves, which are those of arm1, arm2, rotation, turn and gripper
abbrev pub on_curve : List (List Pair) → ℕ → ℕ → ℤ → Type 0
on_curve curves i raw v = IsOnCurve (slice_index_or curves i []) raw v

abbrev pub on_curves : List (List Pair) → CellGauges
on_curves curves =
    record {
      arm1 = on_curve curves 0;
      arm2 = on_curve curves 1;
      rotation = on_curve curves 2;
      turn = on_curve curves 3;
      gripper = on_curve curves 4;
    }

-- its program, by the scales of the cell and what its gauges may give
abbrev pub steps_by : CellScales → CellGauges → (m : Machine) → Steps (ProgressOf m) (SenseOf m) (ReadingOf m) (ActOf m)
steps_by c gives Feed = feed_steps
steps_by c gives Table = table_steps c.turn gives.turn
steps_by c gives Robot = robot_steps (robot_points c) (robot_gauges gives)
steps_by c gives Press = press_steps
steps_by c gives Deposit = deposit_steps
steps_by c gives Crane = crane_steps c.gripper gives.gripper
steps_by c gives Watch = watch_steps

-- its program where a reading is any that a calibration over its scale may give
abbrev pub steps_of : CellScales → (m : Machine) → Steps (ProgressOf m) (SenseOf m) (ReadingOf m) (ActOf m)
steps_of c m = steps_by c (any_near c) m

-- its part's behaviour
abbrev pub rig_of : CellScales → (m : Machine) → Rig (PartOf m) (SenseOf m) (ActOf m)
rig_of c Feed = feed_rig
rig_of c Table = table_rig c.turn
rig_of c Robot = robot_rig (robot_points c)
rig_of c Press = press_rig
rig_of c Deposit = deposit_rig
rig_of c Crane = crane_rig c.gripper
rig_of c Watch = watch_rig
