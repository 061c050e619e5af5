-- What the positions of the plant demand of the interlock, in every state of a run.
use Rattle.std.specs.Prelude.{◌≡◌, ◌≤ℤ◌, true, ◌⊎◌, ◌↔◌, IsSome, IsTrue}
use Rattle.cell_rules.specs.Types.{Machine, Robot, Crane, Zone, Z1, Z2, Z3, Z4, Z5, Z6, Posture, OpenIn, OpenOut}
use Rattle.cell_rules.specs.Types.{FeedEnd, DepEnd}
use Rattle.cell_devices.specs.declared.motor.Motor.TheVariants.{Off}
use Rattle.cell_rules.specs.Names.{ModelState, is_full, owns, posture_at}
use Rattle.cell_parts.specs.declared.plant.TablePlant.{TablePlant}
use Rattle.cell_parts.specs.declared.plant.PlantState.{PlantState}
use Rattle.cell_parts.specs.Shows.{IsTableBottom}
use Rattle.cell_parts.specs.Collisions.{IsOut, IsArm1AtTable, IsArm2InPress, IsArm1InPress, IsArm2AtDeposit}
use Rattle.cell_parts.specs.Collisions.{IsGripperDown, IsOverDeposit, IsOverFeed, RestsAtMiddle, RestsAtBottom}
use Rattle.cell_parts.specs.Collisions.{loads_to}

-- a machine holds a zone, in this posture
abbrev pub HoldsIn : Posture → ModelState → Machine → Zone → Type 0
HoldsIn q s m z = (owns s m z ≡ true) × (posture_at s z ≡ q)

-- where an arm may be: over the table, in the press or over the deposit belt, while the robot holds that zone, open for
-- it
abbrev pub Arm1HasTable : ModelState → PlantState → Type 0
Arm1HasTable s p = IsArm1AtTable p.robot × HoldsIn OpenOut s Robot Z2

abbrev pub Arm1HasPress : ModelState → PlantState → Type 0
Arm1HasPress s p = IsArm1InPress p.robot × HoldsIn OpenIn s Robot Z3

abbrev pub Arm2HasPress : ModelState → PlantState → Type 0
Arm2HasPress s p = IsArm2InPress p.robot × HoldsIn OpenOut s Robot Z3

abbrev pub Arm2HasDeposit : ModelState → PlantState → Type 0
Arm2HasDeposit s p = IsArm2AtDeposit p.robot × HoldsIn OpenIn s Robot Z4

-- the zone that the crane holds, open for it, while its gripper works at that belt
abbrev pub CraneHasDeposit : ModelState → Type 0
CraneHasDeposit s = HoldsIn OpenOut s Crane Z5

abbrev pub CraneHasFeed : ModelState → Type 0
CraneHasFeed s = HoldsIn OpenIn s Crane Z6

-- the table is ready to load: its motors are off, it is at the bottom, and rotated towards the feed belt
pub record RestsAtLoading (t : TablePlant) : Type 0 where
  pub lift_off : t.lift.motor ≡ Off
  pub turn_off : t.turn.motor ≡ Off
  pub bottom : IsTableBottom t.lift.position
  pub turned : t.turn.position ≤ℤ loads_to

-- an arm is out only where it may be
abbrev pub Arm1OutDemands : ModelState → PlantState → Type 0
Arm1OutDemands s p = IsOut p.robot.arm1 → Arm1HasTable s p ⊎ Arm1HasPress s p

abbrev pub Arm2OutDemands : ModelState → PlantState → Type 0
Arm2OutDemands s p = IsOut p.robot.arm2 → Arm2HasPress s p ⊎ Arm2HasDeposit s p

-- an open press rests at the switch of its posture
abbrev pub PressStands : ModelState → PlantState → Type 0
PressStands s p = (posture_at s Z3 ≡ OpenIn → RestsAtMiddle p.press)
    × (posture_at s Z3 ≡ OpenOut → RestsAtBottom p.press)

-- a table that is open to the feed belt is ready to load
abbrev pub TableStands : ModelState → PlantState → Type 0
TableStands s p = posture_at s Z1 ≡ OpenIn → RestsAtLoading p.table

-- a gripper that is down is over one of the belts, and the crane holds that belt's zone
abbrev pub GripperDownDemands : ModelState → PlantState → Type 0
GripperDownDemands s p = IsGripperDown p.crane
    → (IsOverDeposit p.crane × CraneHasDeposit s) ⊎ (IsOverFeed p.crane × CraneHasFeed s)

-- a plate is at a belt's end if and only if that place is full
abbrev pub EndPlatesStand : ModelState → PlantState → Type 0
EndPlatesStand s p = (IsSome p.feed.last ↔ IsTrue (is_full s FeedEnd))
    × (IsSome p.deposit.last ↔ IsTrue (is_full s DepEnd))

pub record PositionDemands (s : ModelState) (p : PlantState) : Type 0 where
  pub arm1 : Arm1OutDemands s p
  pub arm2 : Arm2OutDemands s p
  pub press : PressStands s p
  pub table : TableStands s p
  pub gripper : GripperDownDemands s p
  pub plates : EndPlatesStand s p
