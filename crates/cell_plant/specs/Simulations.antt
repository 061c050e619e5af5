-- A simulation as a value: a moment of a run. Its controllers' progress follows from their events.
use Rattle.std.specs.Prelude.{ℕ, ℤ}
use Rattle.cell_sensors.specs.declared.gauge.Gauge.{Ghosts}
use Rattle.cell_belts_crane.specs.Names.{crane_steps, deposit_steps, feed_steps}
use Rattle.cell_robot.specs.RobotProgram.{gauges_of, robot_steps}
use Rattle.cell_table_press.specs.Names.{press_steps, table_steps}
use Rattle.cell_unit.specs.Sides.{IsReady, side_of}
use Rattle.cell_plant.specs.declared.simulation.Simulation.TheInside.{Inside}
use Rattle.cell_plant.specs.Cells.{FiveGauges, cell_scales, five_gauges, points_of, sides_of, IsFitted}
use Rattle.cell_plant.specs.Machines.{CellGauges}
use Rattle.cell_plant.specs.Moments.{RunMoment}
use Rattle.cell_plant.specs.Notebooks.{all_notes}
use Rattle.cell_plant.specs.Watch.{watch_steps}

abbrev pub moment_of : {F1 F2 F3 F4 F5 : Type 0} {g1 : Ghosts F1} {g2 : Ghosts F2} {g3 : Ghosts F3} {g4 : Ghosts F4}
    {g5 : Ghosts F5} → Inside F1 F2 F3 F4 F5 g1 g2 g3 g4 g5 → RunMoment (FiveGauges F1 F2 F3 F4 F5)
moment_of s =
    record {
      scales = cell_scales s.cell;
      gauges = five_gauges s.cell;
      opening = s.bench.opening;
      interlock = s.bench.state;
      sides = sides_of s.cell (side_of s.watch.controller.progress s.watch.controller.stopped tt);
      history = s.bench.history.items;
      notes = all_notes s.notebooks;
    }

-- what gauges of five types may give at a raw value
pub record Gauges (F1 F2 F3 F4 F5 : Type 0) : Type 1 where
  pub arm1 : F1 → ℕ → ℤ → Type 0
  pub arm2 : F2 → ℕ → ℤ → Type 0
  pub rotation : F3 → ℕ → ℤ → Type 0
  pub turn : F4 → ℕ → ℤ → Type 0
  pub gripper : F5 → ℕ → ℤ → Type 0

-- what these five may give
abbrev pub given_by : {F1 F2 F3 F4 F5 : Type 0} → Gauges F1 F2 F3 F4 F5 → FiveGauges F1 F2 F3 F4 F5 → CellGauges
given_by gives five =
    record {
      arm1 = gives.arm1 five.arm1;
      arm2 = gives.arm2 five.arm2;
      rotation = gives.rotation five.rotation;
      turn = gives.turn five.turn;
      gripper = gives.gripper five.gripper;
    }

-- the progress of each controller that hasn't stopped follows from its events
pub record AreReady {F1 F2 F3 F4 F5 : Type 0} {g1 : Ghosts F1} {g2 : Ghosts F2} {g3 : Ghosts F3} {g4 : Ghosts F4}
    {g5 : Ghosts F5} (gives : Gauges F1 F2 F3 F4 F5) (s : Inside F1 F2 F3 F4 F5 g1 g2 g3 g4 g5) : Type 0 where
  pub fitted : IsFitted s.cell
  pub feed : IsReady feed_steps s.bench.opening s.bench.history.items s.cell.feed.controller.stopped
      s.cell.feed.controller.progress
  pub table : IsReady (table_steps s.cell.table.controller.program.turn.points
      (gives.turn s.cell.table.controller.program.turn.gauge)) s.bench.opening s.bench.history.items
      s.cell.table.controller.stopped s.cell.table.controller.progress
  pub robot : IsReady (robot_steps (points_of s.cell.robot.controller.program)
      (gauges_of (gives.arm1 s.cell.robot.controller.program.arm1.gauge)
      (gives.arm2 s.cell.robot.controller.program.arm2.gauge)
      (gives.rotation s.cell.robot.controller.program.rotation.gauge)))
      s.bench.opening s.bench.history.items s.cell.robot.controller.stopped s.cell.robot.controller.progress
  pub press : IsReady press_steps s.bench.opening s.bench.history.items s.cell.press.controller.stopped
      s.cell.press.controller.progress
  pub deposit : IsReady deposit_steps s.bench.opening s.bench.history.items s.cell.deposit.controller.stopped
      s.cell.deposit.controller.progress
  pub crane : IsReady (crane_steps s.cell.crane.controller.program.gripper.points
      (gives.gripper s.cell.crane.controller.program.gripper.gauge)) s.bench.opening s.bench.history.items
      s.cell.crane.controller.stopped s.cell.crane.controller.progress
  pub watch : IsReady watch_steps s.bench.opening s.bench.history.items s.watch.controller.stopped
      s.watch.controller.progress
