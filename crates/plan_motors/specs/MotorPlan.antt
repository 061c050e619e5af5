-- A plan, its motors and its hazards.
use Rattle.std.specs.Prelude.{List}
use Rattle.plan_types.specs.Table.{PlanTable}
use Rattle.plan_motors.specs.declared.motor.Motor.{Motor}
use Rattle.plan_motors.specs.declared.motor.Hazard.{Hazard}

pub record MotorTables : Type 0 where
  pub plan : PlanTable
  pub motors : List Motor
  pub hazards : List Hazard

abbrev pub motor_plan : PlanTable → List Motor → List Hazard → MotorTables
motor_plan plan motors hazards = record { plan = plan; motors = motors; hazards = hazards }
