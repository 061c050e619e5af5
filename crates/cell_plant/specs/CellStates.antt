-- A state of the whole cell: the interlock's, and of each machine its progress, what has stopped it, and its part.
use Rattle.std.specs.Prelude.{None}
use Rattle.cell_rules.specs.Types.{Machine, Feed, Table, Robot, Press, Deposit, Crane, Watch}
use Rattle.cell_rules.specs.ModelState.{ModelState}
use Rattle.cell_belts_crane.specs.Names.{crane_start, deposit_start, feed_start}
use Rattle.cell_belts_crane.specs.declared.crane.CraneProgress.{CraneProgress}
use Rattle.cell_belts_crane.specs.declared.deposit.DepositProgress.{DepositProgress}
use Rattle.cell_belts_crane.specs.declared.feed.FeedProgress.{FeedProgress}
use Rattle.cell_notes.specs.Names.{values_of}
use Rattle.cell_notes.specs.declared.by_machine.ByMachine.{ByMachine}
use Rattle.cell_notes.specs.declared.status.Status.{Status}
use Rattle.cell_robot.specs.Names.{robot_start}
use Rattle.cell_robot.specs.declared.robot.RobotProgress.{RobotProgress}
use Rattle.cell_table_press.specs.Names.{press_start, table_start}
use Rattle.cell_table_press.specs.declared.press.PressProgress.{PressProgress}
use Rattle.cell_table_press.specs.declared.table.TableProgress.{TableProgress}
use Rattle.cell_parts.specs.Names.{feed_at_start, table_at_start, robot_at_start, press_at_start, deposit_at_start}
use Rattle.cell_parts.specs.Names.{crane_at_start}
use Rattle.cell_parts.specs.declared.axis.Axis.{Axis}
use Rattle.cell_parts.specs.declared.belt.Belt.{Belt}
use Rattle.cell_parts.specs.declared.plant.TablePlant.{TablePlant}
use Rattle.cell_parts.specs.declared.plant.RobotPlant.{RobotPlant}
use Rattle.cell_parts.specs.declared.plant.CranePlant.{CranePlant}
use Rattle.cell_parts.specs.declared.plant.PlantState.{PlantState}
use Rattle.cell_unit.specs.Sides.{Side, side_of}
use Rattle.cell_unit.specs.Statuses.{status_of}
use Rattle.cell_plant.specs.declared.watch.WatchProgress.{WatchProgress}
use Rattle.cell_plant.specs.Machines.{ProgressOf, PartOf}
use Rattle.cell_plant.specs.Watch.{watch_at_start}

abbrev pub SideOf : Machine → Type 0
SideOf m = Side (ProgressOf m) (PartOf m)

pub record CellState : Type 0 where
  pub interlock : ModelState
  pub side : (m : Machine) → SideOf m

-- the six parts of the machines
abbrev pub plant_of : CellState → PlantState
plant_of w =
    record {
      feed = (w.side Feed).part;
      table = (w.side Table).part;
      robot = (w.side Robot).part;
      press = (w.side Press).part;
      deposit = (w.side Deposit).part;
      crane = (w.side Crane).part;
    }

-- each machine's status
abbrev pub statuses_in : CellState → ByMachine Status
statuses_in w = values_of (λ m. status_of (w.side m).stopped)

-- what is known of the machines, and the side of each
pub record Sides : Type 0 where
  pub feed : Side FeedProgress Belt
  pub table : Side TableProgress TablePlant
  pub robot : Side RobotProgress RobotPlant
  pub press : Side PressProgress Axis
  pub deposit : Side DepositProgress Belt
  pub crane : Side CraneProgress CranePlant
  pub watch : Side WatchProgress (Unit {0})

abbrev pub side_in : Sides → (m : Machine) → SideOf m
side_in s Feed = s.feed
side_in s Table = s.table
side_in s Robot = s.robot
side_in s Press = s.press
side_in s Deposit = s.deposit
side_in s Crane = s.crane
side_in s Watch = s.watch

-- the cell at the start: each controller at the beginning of its program, and each part at its start
abbrev pub sides_at_start : ModelState → Sides
sides_at_start s =
    record {
      feed = side_of (feed_start s) None (feed_at_start s);
      table = side_of (table_start s) None table_at_start;
      robot = side_of (robot_start s) None (robot_at_start s);
      press = side_of (press_start s) None press_at_start;
      deposit = side_of (deposit_start s) None (deposit_at_start s);
      crane = side_of (crane_start s) None (crane_at_start s);
      watch = watch_at_start;
    }

abbrev pub cell_at_start : ModelState → CellState
cell_at_start s = record { interlock = s; side = side_in (sides_at_start s) }
