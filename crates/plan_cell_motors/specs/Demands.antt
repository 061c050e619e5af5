-- What the rows need is what the plant demands of the interlock: of motors that are driven, of belts that run, of arms
-- that are out and a gripper that is down.
use Rattle.std.specs.Prelude.{ℕ, ◌⊎◌, ◌↔◌, IsTrue}
use Rattle.cell_rules.specs.Names.{ModelState}
use Rattle.cell_parts.specs.declared.plant.RobotPlant.{RobotPlant}
use Rattle.cell_parts.specs.declared.plant.CranePlant.{CranePlant}
use Rattle.cell_parts.specs.declared.plant.PlantState.{PlantState}
use Rattle.cell_parts.specs.Collisions.{IsOn, IsOut, IsArm1AtTable, IsArm2InPress, IsArm1InPress, IsArm2AtDeposit}
use Rattle.cell_parts.specs.Collisions.{IsGripperDown, IsOverDeposit, IsOverFeed, TableMoves}
use Rattle.cell_parts.specs.PositionDemands.{Arm1OutDemands, Arm2OutDemands, GripperDownDemands}
use Rattle.cell_parts.specs.MotorDemands.{GripperErrand, ForTravel, AtDeposit, AtFeed, PressMotorDemands}
use Rattle.cell_parts.specs.MotorDemands.{TableMotorDemands, FeedMotorDemands, DepositMotorDemands}
use Rattle.cell_parts.specs.MotorDemands.{Arm1MotorDemands, Arm2MotorDemands, GripperMotorDemands}
use Rattle.plan_cell.specs.CellPlan.{cell_table}
use Rattle.plan_cell.specs.Mapping.{plan_state}
use Rattle.plan_motors.specs.Motor.{Permits}
use Rattle.plan_motors.specs.OfPlan.{motor_at}
use Rattle.plan_cell_motors.specs.CellMotors.{cell_motors}

-- the state of the cell, as one of its plan, permits a row
abbrev pub IsPermitted : ModelState → ℕ → Type 0
IsPermitted s k = Permits cell_table (plan_state s) (motor_at cell_motors k)

-- an arm where it may be
abbrev pub Arm1IsPermitted : ModelState → RobotPlant → Type 0
Arm1IsPermitted s r = (IsArm1AtTable r × IsPermitted s 6) ⊎ (IsArm1InPress r × IsPermitted s 7)

abbrev pub Arm2IsPermitted : ModelState → RobotPlant → Type 0
Arm2IsPermitted s r = (IsArm2InPress r × IsPermitted s 8) ⊎ (IsArm2AtDeposit r × IsPermitted s 9)

abbrev pub GripperIsPermitted : ModelState → CranePlant → Type 0
GripperIsPermitted s c = (IsOverDeposit c × IsPermitted s 11) ⊎ (IsOverFeed c × IsPermitted s 12)

-- the row of the gripper that is driven for an errand
abbrev pub errand_row : GripperErrand → ℕ
errand_row ForTravel = 13
errand_row AtDeposit = 11
errand_row AtFeed = 12

-- each demand of the plant, by the rows
pub record DemandsByRows (errand : GripperErrand) (s : ModelState) (p : PlantState) : Type 0 where
  pub press : PressMotorDemands s p ↔ (IsOn p.press → IsPermitted s 0)
  pub table : TableMotorDemands s p ↔ (TableMoves p.table → IsPermitted s 1 × IsPermitted s 2)
  pub feed : FeedMotorDemands s p ↔ (IsTrue p.feed.runs → IsPermitted s 3 ⊎ IsPermitted s 4)
  pub deposit : DepositMotorDemands s p ↔ (IsTrue p.deposit.runs → IsPermitted s 5)
  pub arm1 : Arm1MotorDemands s p ↔ (IsOn p.robot.arm1 → Arm1IsPermitted s p.robot)
  pub arm2 : Arm2MotorDemands s p ↔ (IsOn p.robot.arm2 → Arm2IsPermitted s p.robot)
  pub gripper : GripperMotorDemands errand s p ↔ (IsOn p.crane.gripper → IsPermitted s (errand_row errand))
  pub arm1_out : Arm1OutDemands s p ↔ (IsOut p.robot.arm1 → Arm1IsPermitted s p.robot)
  pub arm2_out : Arm2OutDemands s p ↔ (IsOut p.robot.arm2 → Arm2IsPermitted s p.robot)
  pub gripper_down : GripperDownDemands s p ↔ (IsGripperDown p.crane → GripperIsPermitted s p.crane)

-- in every state of the interlock and of the plant
abbrev pub RowsSayDemands : Type 0
RowsSayDemands = (errand : GripperErrand) (s : ModelState) (p : PlantState) → DemandsByRows errand s p
