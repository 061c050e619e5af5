-- All examples of the plant.
use Rattle.cell_parts.specs.Bounds.{BoundsAreMet}
use Rattle.cell_parts.proofs.AxisFigures.{axes}
use Rattle.cell_parts.proofs.CollisionBounds.{collisions, magnets, all_ends, each_collision}
use Rattle.cell_parts.proofs.DemandBounds.{position_demands, motor_demands, driving, resting, each_demand}
use Rattle.cell_parts.proofs.PartBounds.{setting, moving, sensors, showing, notes, start}
use Rattle.cell_parts.proofs.Raws.{raws}

pub bounds_are_met : BoundsAreMet
bounds_are_met = record {
  collisions = collisions;
  magnets = magnets;
  ends = all_ends;
  each_collision = each_collision;
  position_demands = position_demands;
  motor_demands = motor_demands;
  driving = driving;
  resting = resting;
  each_demand = each_demand;
  setting = setting;
  moving = moving;
  sensors = sensors;
  raws = raws;
  showing = showing;
  notes = notes;
  start = start;
  axes = axes;
}
