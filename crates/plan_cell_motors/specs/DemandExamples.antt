-- What the rows and the demands of the cell say, each by itself.
use Rattle.std.specs.Prelude.{◌≡◌, ◌⊎◌, ◌↔◌, true, false, [], ◌∷◌, ◌++◌, map, replicate, length, Some, None, IsTrue}
use Rattle.std.specs.List.{range_with_len}
use Rattle.cell_rules.specs.Names.{ModelState}
use Rattle.cell_parts.specs.declared.plant.PlantState.{PlantState}
use Rattle.cell_parts.specs.Collisions.{IsOn, IsOut, IsArm1AtTable, IsArm2InPress, IsArm1InPress, IsArm2AtDeposit}
use Rattle.cell_parts.specs.Collisions.{IsGripperDown, IsOverDeposit, IsOverFeed, TableMoves}
use Rattle.cell_parts.specs.PositionDemands.{Arm1OutDemands, Arm2OutDemands, GripperDownDemands}
use Rattle.cell_parts.specs.MotorDemands.{ForTravel, AtDeposit, AtFeed, PressMotorDemands}
use Rattle.cell_parts.specs.MotorDemands.{TableMotorDemands, FeedMotorDemands, DepositMotorDemands}
use Rattle.cell_parts.specs.MotorDemands.{Arm1MotorDemands, Arm2MotorDemands, GripperMotorDemands}
use Rattle.plan_types.specs.declared.posture.Posture.TheVariants.{Moving, OpenIn, OpenOut}
use Rattle.plan_cell.specs.CellPlan.{cell_table}
use Rattle.plan_motors.specs.Motor.{no_need, need_of, place_need}
use Rattle.plan_motors.specs.OfPlan.{motor_at}
use Rattle.plan_motors.specs.Decided.{NeverBoth}
use Rattle.plan_cell_motors.specs.CellMotors.{cell_motors, cell_hazards, held, owned, EachIsExcluded}
use Rattle.plan_cell_motors.specs.Demands.{IsPermitted, errand_row, RowsSayDemands}

pub record RowExamples : Type 0 where
  pub motors : length cell_motors ≡ 18
  pub hazards : length cell_hazards ≡ 10
  pub for_travel : errand_row ForTravel ≡ 13
  pub at_deposit : errand_row AtDeposit ≡ 11
  pub at_feed : errand_row AtFeed ≡ 12
  pub gripper_at_feed : need_of (motor_at cell_motors 12) 5 ≡ held OpenIn
  pub belt_with_z1 : need_of (motor_at cell_motors 4) 0 ≡ owned
  pub belt_with_empty_end : place_need (motor_at cell_motors 3) 1 ≡ Some false
  -- of all rows: the machine, the zones that it has to hold, and their postures
  pub machines : map (λ k. (motor_at cell_motors k).machine) (range_with_len 0 18)
      ≡ 3 ∷ 1 ∷ 1 ∷ 0 ∷ 0 ∷ 4 ∷ 2 ∷ 2 ∷ 2 ∷ 2 ∷ 2 ∷ 5 ∷ 5 ∷ 5 ∷ 5 ∷ 2 ∷ 2 ∷ 5 ∷ []
  pub z1 : map (λ k. need_of (motor_at cell_motors k) 0) (range_with_len 0 18)
      ≡ no_need ∷ held Moving ∷ held Moving ∷ no_need ∷ owned ∷ replicate 13 no_need
  pub z2 : map (λ k. need_of (motor_at cell_motors k) 1) (range_with_len 0 18)
      ≡ no_need ∷ held Moving ∷ held Moving ∷ no_need ∷ no_need ∷ no_need ∷ held OpenOut ∷ replicate 11 no_need
  pub z3 : map (λ k. need_of (motor_at cell_motors k) 2) (range_with_len 0 18)
      ≡ held Moving ∷ replicate 6 no_need ++ held OpenIn ∷ held OpenOut ∷ replicate 9 no_need
  pub z4 : map (λ k. need_of (motor_at cell_motors k) 3) (range_with_len 0 18)
      ≡ replicate 5 no_need ++ held Moving ∷ replicate 3 no_need ++ held OpenIn ∷ replicate 8 no_need
  pub z5 : map (λ k. need_of (motor_at cell_motors k) 4) (range_with_len 0 18)
      ≡ replicate 5 no_need ++ held Moving ∷ replicate 5 no_need ++ held OpenOut ∷ replicate 6 no_need
  pub z6 : map (λ k. need_of (motor_at cell_motors k) 5) (range_with_len 0 18)
      ≡ replicate 3 no_need ++ held Moving ∷ held Moving ∷ replicate 7 no_need ++ held OpenIn ∷ replicate 5 no_need
  pub feed_ends : map (λ k. place_need (motor_at cell_motors k) 1) (range_with_len 0 18)
      ≡ None ∷ None ∷ None ∷ Some false ∷ replicate 14 None
  pub other_places : map (place_need (motor_at cell_motors 3)) (range_with_len 0 16)
      ≡ None ∷ Some false ∷ replicate 14 None
  pub no_more_zones : map (need_of (motor_at cell_motors 12)) (range_with_len 0 10)
      ≡ replicate 5 no_need ++ held OpenIn ∷ replicate 4 no_need
  pub firsts : map (λ h. h.first) cell_hazards ≡ 0 ∷ 0 ∷ 1 ∷ 2 ∷ 5 ∷ 5 ∷ 3 ∷ 4 ∷ 4 ∷ 4 ∷ []
  pub seconds : map (λ h. h.second) cell_hazards ≡ 7 ∷ 8 ∷ 6 ∷ 6 ∷ 9 ∷ 11 ∷ 12 ∷ 12 ∷ 1 ∷ 2 ∷ []
  pub moving : held Moving ≡ record { holds = true; posture = Some Moving }
  pub any_posture : owned ≡ record { holds = true; posture = None }
  pub fifth_hazard : EachIsExcluded → NeverBoth cell_table (motor_at cell_motors 5) (motor_at cell_motors 11)
  pub first_hazard : EachIsExcluded → NeverBoth cell_table (motor_at cell_motors 0) (motor_at cell_motors 7)
  pub last_hazard : EachIsExcluded → NeverBoth cell_table (motor_at cell_motors 4) (motor_at cell_motors 2)

pub record DemandsTell (s : ModelState) (p : PlantState) : Type 0 where
  pub press : PressMotorDemands s p ↔ (IsOn p.press → IsPermitted s 0)
  pub table : TableMotorDemands s p ↔ (TableMoves p.table → IsPermitted s 1 × IsPermitted s 2)
  pub feed : FeedMotorDemands s p ↔ (IsTrue p.feed.runs → IsPermitted s 3 ⊎ IsPermitted s 4)
  pub deposit : DepositMotorDemands s p ↔ (IsTrue p.deposit.runs → IsPermitted s 5)
  pub arm1 : Arm1MotorDemands s p ↔ (IsOn p.robot.arm1
      → (IsArm1AtTable p.robot × IsPermitted s 6) ⊎ (IsArm1InPress p.robot × IsPermitted s 7))
  pub arm2 : Arm2MotorDemands s p ↔ (IsOn p.robot.arm2
      → (IsArm2InPress p.robot × IsPermitted s 8) ⊎ (IsArm2AtDeposit p.robot × IsPermitted s 9))
  pub arm1_out : Arm1OutDemands s p ↔ (IsOut p.robot.arm1
      → (IsArm1AtTable p.robot × IsPermitted s 6) ⊎ (IsArm1InPress p.robot × IsPermitted s 7))
  pub arm2_out : Arm2OutDemands s p ↔ (IsOut p.robot.arm2
      → (IsArm2InPress p.robot × IsPermitted s 8) ⊎ (IsArm2AtDeposit p.robot × IsPermitted s 9))
  pub gripper_down : GripperDownDemands s p ↔ (IsGripperDown p.crane
      → (IsOverDeposit p.crane × IsPermitted s 11) ⊎ (IsOverFeed p.crane × IsPermitted s 12))
  pub for_travel : GripperMotorDemands ForTravel s p ↔ (IsOn p.crane.gripper → IsPermitted s 13)
  pub at_deposit : GripperMotorDemands AtDeposit s p ↔ (IsOn p.crane.gripper → IsPermitted s 11)
  pub at_feed : GripperMotorDemands AtFeed s p ↔ (IsOn p.crane.gripper → IsPermitted s 12)

abbrev pub RowsTell : Type 0
RowsTell = RowsSayDemands → (s : ModelState) (p : PlantState) → DemandsTell s p
