-- Laws of a single state of interlock and plant, however it arose.
use Rattle.std.specs.Prelude.{◌≡◌, IsTrue}
use Rattle.cell_rules.specs.Types.{Machine, Zone, host_of}
use Rattle.cell_rules.specs.Names.{ModelState, IsSound, is_open, owns, posture_at, RunsClear}
use Rattle.cell_parts.specs.declared.plant.PlantState.{PlantState}
use Rattle.cell_parts.specs.Collisions.{NothingCollides}
use Rattle.cell_parts.specs.PositionDemands.{EndPlatesStand, PositionDemands}
use Rattle.cell_parts.specs.MotorDemands.{GripperErrand, MotorDemands, TravelsHigh, RotatesRetracted, DrivesIn, Rests}

-- the interlock is sound and its belts run clear, positions and motors have what they demand, the crane travels high,
-- and the robot rotates with its arms in
pub record AllDemandsMet (errand : GripperErrand) (s : ModelState) (p : PlantState) : Type 0 where
  pub sound : IsSound s
  pub clear : RunsClear s
  pub positions : PositionDemands s p
  pub motors : MotorDemands errand s p
  pub travel : TravelsHigh p.crane
  pub rotation : RotatesRetracted p.robot

-- nothing collides if all demands are met
abbrev pub DemandsPreventCollisions : Type 0
DemandsPreventCollisions = (errand : GripperErrand) (s : ModelState) (p : PlantState) → AllDemandsMet errand s p
    → NothingCollides p

-- a machine rests while a zone that it hosts is open; a machine that drives in a zone holds it; two machines never
-- drive in one zone
pub record KeepApart (errand : GripperErrand) (s : ModelState) (p : PlantState) : Type 0 where
  pub host_rests : (z : Zone) → IsTrue (is_open (posture_at s z)) → Rests p (host_of z)
  pub driver_holds : (m : Machine) (z : Zone) → DrivesIn errand p m z → IsTrue (owns s m z)
  pub one_drives : (m n : Machine) (z : Zone) → DrivesIn errand p m z → DrivesIn errand p n z → m ≡ n

-- machines keep apart if motors have what they demand, and plates are at the belts' ends if and only if those places
-- are full
abbrev pub MotorDemandsKeepApart : Type 0
MotorDemandsKeepApart = (errand : GripperErrand) (s : ModelState) (p : PlantState) → EndPlatesStand s p
    → MotorDemands errand s p → KeepApart errand s p
