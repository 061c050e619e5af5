-- All examples of the plant.
use Rattle.cell_sensors.specs.Scale.{Scale}
use Rattle.cell_sensors.specs.Names.{RobotScales}
use Rattle.cell_parts.specs.CollisionExamples.{CollisionBounds, MagnetBounds, EndBounds, EachCollision}
use Rattle.cell_parts.specs.DemandExamples.{PositionDemandBounds, MotorDemandBounds, DrivingBounds, RestingBounds}
use Rattle.cell_parts.specs.DemandExamples.{EachDemand}
use Rattle.cell_parts.specs.PartExamples.{SettingExamples, MovingBounds, SensorBounds, RawBounds, ShowingExamples}
use Rattle.cell_parts.specs.PartExamples.{NoteBounds, StartValues}
use Rattle.cell_parts.specs.ScaleExamples.{AxesAreMet}

pub record BoundsAreMet : Type 0 where
  pub collisions : CollisionBounds
  pub magnets : MagnetBounds
  pub ends : EndBounds
  pub each_collision : EachCollision
  pub position_demands : PositionDemandBounds
  pub motor_demands : MotorDemandBounds
  pub driving : DrivingBounds
  pub resting : RestingBounds
  pub each_demand : EachDemand
  pub setting : (scale : Scale) (scales : RobotScales) → SettingExamples scale scales
  pub moving : (scale : Scale) (scales : RobotScales) → MovingBounds scale scales
  pub sensors : SensorBounds
  pub raws : RawBounds
  pub showing : ShowingExamples
  pub notes : (scale : Scale) (scales : RobotScales) → NoteBounds scale scales
  pub start : StartValues
  pub axes : AxesAreMet
