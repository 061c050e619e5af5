-- What a motor that is on, or a running belt, demands of the interlock and of its own machine. The demand holds in
-- every state of a run, also of motors that stay on during other machines' turns.
use Rattle.std.specs.Prelude.{◌≡◌, false, ◌⊎◌, IsTrue, IsSome, ⊤}
use Rattle.cell_rules.specs.Types.{Machine, Feed, Table, Robot, Press, Deposit, Crane, Watch, Zone, Z1, Z2, Z3, Z4}
use Rattle.cell_rules.specs.Types.{Z5, Z6, Moving, FeedEnd}
use Rattle.cell_devices.specs.declared.motor.Motor.TheVariants.{Off}
use Rattle.cell_rules.specs.Names.{ModelState, is_full, owns}
use Rattle.cell_parts.specs.declared.plant.RobotPlant.{RobotPlant}
use Rattle.cell_parts.specs.declared.plant.CranePlant.{CranePlant}
use Rattle.cell_parts.specs.declared.plant.PlantState.{PlantState}
use Rattle.cell_parts.specs.Collisions.{IsOn, IsOut, IsArm1AtTable, IsArm2InPress, IsArm1InPress, IsArm2AtDeposit}
use Rattle.cell_parts.specs.Collisions.{IsGripperDown, TableMoves}
use Rattle.cell_parts.specs.PositionDemands.{HoldsIn, Arm1HasTable, Arm1HasPress, Arm2HasPress, Arm2HasDeposit}
use Rattle.cell_parts.specs.PositionDemands.{CraneHasDeposit, CraneHasFeed}

-- the press moves only while it holds its interior, which moves
abbrev pub PressMotorDemands : ModelState → PlantState → Type 0
PressMotorDemands s p = IsOn p.press → HoldsIn Moving s Press Z3

-- the table moves only while it holds both its zones, which move
abbrev pub TableMotorDemands : ModelState → PlantState → Type 0
TableMotorDemands s p = TableMoves p.table → HoldsIn Moving s Table Z1 × HoldsIn Moving s Table Z2

-- the feed belt runs only while feed holds z6, which moves, and holds z1 if a plate is at its end
abbrev pub FeedMotorDemands : ModelState → PlantState → Type 0
FeedMotorDemands s p = IsTrue p.feed.runs
    → HoldsIn Moving s Feed Z6 × (IsTrue (is_full s FeedEnd) → IsTrue (owns s Feed Z1))

-- the deposit belt runs only while deposit holds both its zones, which move
abbrev pub DepositMotorDemands : ModelState → PlantState → Type 0
DepositMotorDemands s p = IsTrue p.deposit.runs → HoldsIn Moving s Deposit Z4 × HoldsIn Moving s Deposit Z5

-- an arm is driven only where it may be out
abbrev pub Arm1MotorDemands : ModelState → PlantState → Type 0
Arm1MotorDemands s p = IsOn p.robot.arm1 → Arm1HasTable s p ⊎ Arm1HasPress s p

abbrev pub Arm2MotorDemands : ModelState → PlantState → Type 0
Arm2MotorDemands s p = IsOn p.robot.arm2 → Arm2HasPress s p ⊎ Arm2HasDeposit s p

-- Why the gripper is driven: to its travelling height with no work below, for a plate on the deposit belt, or to lay
-- one on the feed belt. The plant doesn't show it: on its way to the travelling height the gripper may be over either
-- belt.
pub data GripperErrand : Type 0 where
  ForTravel : GripperErrand
  AtDeposit : GripperErrand
  AtFeed : GripperErrand

abbrev pub ErrandDemands : GripperErrand → ModelState → Type 0
ErrandDemands ForTravel s = ⊤
ErrandDemands AtDeposit s = CraneHasDeposit s
ErrandDemands AtFeed s = CraneHasFeed s

-- the gripper is driven only while the crane holds the zone of its errand
abbrev pub GripperMotorDemands : GripperErrand → ModelState → PlantState → Type 0
GripperMotorDemands errand s p = IsOn p.crane.gripper → ErrandDemands errand s

pub record MotorDemands (errand : GripperErrand) (s : ModelState) (p : PlantState) : Type 0 where
  pub press : PressMotorDemands s p
  pub table : TableMotorDemands s p
  pub feed : FeedMotorDemands s p
  pub deposit : DepositMotorDemands s p
  pub arm1 : Arm1MotorDemands s p
  pub arm2 : Arm2MotorDemands s p
  pub gripper : GripperMotorDemands errand s p

-- The crane's travel and the robot's rotation demand no zone, but something of the same machine: the crane travels only
-- while its gripper is up, and the robot rotates only while both arms are in.
abbrev pub TravelsHigh : CranePlant → Type 0
TravelsHigh c = IsOn c.travel → ¬ IsGripperDown c

pub record RotatesRetracted (r : RobotPlant) : Type 0 where
  pub arm1 : IsOn r.rotation → ¬ IsOut r.arm1
  pub arm2 : IsOn r.rotation → ¬ IsOut r.arm2

-- a machine drives in a zone: it has a motor on or a belt running that works there
abbrev pub CraneDrivesIn : GripperErrand → CranePlant → Zone → Type 0
CraneDrivesIn AtDeposit c Z5 = IsOn c.gripper
CraneDrivesIn AtFeed c Z6 = IsOn c.gripper
CraneDrivesIn _ c z = ⊥

abbrev pub DrivesIn : GripperErrand → PlantState → Machine → Zone → Type 0
DrivesIn errand p Press Z3 = IsOn p.press
DrivesIn errand p Table Z1 = TableMoves p.table
DrivesIn errand p Table Z2 = TableMoves p.table
DrivesIn errand p Feed Z6 = IsTrue p.feed.runs
DrivesIn errand p Feed Z1 = IsTrue p.feed.runs × IsSome p.feed.last
DrivesIn errand p Deposit Z4 = IsTrue p.deposit.runs
DrivesIn errand p Deposit Z5 = IsTrue p.deposit.runs
DrivesIn errand p Robot Z2 = IsOn p.robot.arm1 × IsArm1AtTable p.robot
DrivesIn errand p Robot Z3 = (IsOn p.robot.arm1 × IsArm1InPress p.robot) ⊎ (IsOn p.robot.arm2 × IsArm2InPress p.robot)
DrivesIn errand p Robot Z4 = IsOn p.robot.arm2 × IsArm2AtDeposit p.robot
DrivesIn errand p Crane z = CraneDrivesIn errand p.crane z
DrivesIn errand p m z = ⊥

-- a machine rests: its motors are off, or its belt doesn't run
abbrev pub Rests : PlantState → Machine → Type 0
Rests p Feed = p.feed.runs ≡ false
Rests p Table = (p.table.lift.motor ≡ Off) × (p.table.turn.motor ≡ Off)
Rests p Robot = (p.robot.arm1.motor ≡ Off) × (p.robot.arm2.motor ≡ Off) × (p.robot.rotation.motor ≡ Off)
Rests p Press = p.press.motor ≡ Off
Rests p Deposit = p.deposit.runs ≡ false
Rests p Crane = (p.crane.travel.motor ≡ Off) × (p.crane.gripper.motor ≡ Off)
Rests p Watch = ⊤
