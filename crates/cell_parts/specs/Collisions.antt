-- Collisions: nine cases that mention only positions, plates, motors, magnets and switches.
use Rattle.std.specs.Prelude.{◌≡◌, ◌≢◌, ℤ, pos, ◌+ℤ◌, ◌-ℤ◌, ◌≤ℤ◌, ◌<ℤ◌, Bool, true, false, ◌⊎◌, IsTrue, IsSome}
use Rattle.cell_rules.specs.Types.{Machine, Feed, Table, Robot, Press, Deposit, Crane, Watch}
use Rattle.cell_devices.specs.Names.{retracted_to, travel_from}
use Rattle.cell_devices.specs.declared.motor.Motor.TheVariants.{Off, Plus, Minus}
use Rattle.cell_devices.specs.declared.stops.Stop.{Stop}
use Rattle.cell_devices.specs.declared.stops.TheConstants.{ROTATION_ARM1_PRESS, ROTATION_ARM2_DEPOSIT, ARM1_PRESS}
use Rattle.cell_devices.specs.declared.stops.TheConstants.{ARM2_DEPOSIT, GRIPPER_FEED}
use Rattle.cell_parts.specs.declared.axis.Axis.{Axis}
use Rattle.cell_parts.specs.Axes.{press_end, arm_end, rotation_end, lift_end, turn_end, crane_end, gripper_end, Span}
use Rattle.cell_parts.specs.Axes.{IsIn}
use Rattle.cell_parts.specs.declared.plant.TablePlant.{TablePlant}
use Rattle.cell_parts.specs.declared.plant.RobotPlant.{RobotPlant}
use Rattle.cell_parts.specs.declared.plant.CranePlant.{CranePlant}
use Rattle.cell_parts.specs.declared.plant.PlantState.{PlantState}
use Rattle.cell_parts.specs.Shows.{IsPressBottom, IsPressMiddle, IsTableBottom, IsCraneAtFeed}

abbrev pub IsOn : Axis → Type 0
IsOn a = a.motor ≢ Off

-- an arm is out; the sectors of the rotation in which an arm is at a place
abbrev pub IsOut : Axis → Type 0
IsOut arm = retracted_to <ℤ arm.position

abbrev pub arm1_at_table : Span
arm1_at_table = record { first = pos 200; last = pos 400 }

abbrev pub arm2_in_press : Span
arm2_in_press = record { first = pos 500; last = pos 700 }

abbrev pub arm1_in_press : Span
arm1_in_press = record { first = pos 1400; last = pos 1600 }

abbrev pub arm2_at_deposit : Span
arm2_at_deposit = record { first = pos 1700; last = pos 1900 }

abbrev pub IsArm1AtTable : RobotPlant → Type 0
IsArm1AtTable r = IsIn arm1_at_table r.rotation.position

abbrev pub IsArm2InPress : RobotPlant → Type 0
IsArm2InPress r = IsIn arm2_in_press r.rotation.position

abbrev pub IsArm1InPress : RobotPlant → Type 0
IsArm1InPress r = IsIn arm1_in_press r.rotation.position

abbrev pub IsArm2AtDeposit : RobotPlant → Type 0
IsArm2AtDeposit r = IsIn arm2_at_deposit r.rotation.position

-- the gripper is down, and the crane is over one of the belts
abbrev pub over_deposit_to : ℤ
over_deposit_to = pos 200

abbrev pub over_feed_from : ℤ
over_feed_from = pos 1800

abbrev pub IsGripperDown : CranePlant → Type 0
IsGripperDown c = c.gripper.position <ℤ travel_from

abbrev pub IsOverDeposit : CranePlant → Type 0
IsOverDeposit c = c.travel.position ≤ℤ over_deposit_to

abbrev pub IsOverFeed : CranePlant → Type 0
IsOverFeed c = over_feed_from ≤ℤ c.travel.position

-- the press rests at a switch: its motor is off and the switch is on
abbrev pub RestsAtMiddle : Axis → Type 0
RestsAtMiddle press = (press.motor ≡ Off) × IsPressMiddle press.position

abbrev pub RestsAtBottom : Axis → Type 0
RestsAtBottom press = (press.motor ≡ Off) × IsPressBottom press.position

abbrev pub TableMoves : TablePlant → Type 0
TableMoves t = IsOn t.lift ⊎ IsOn t.turn

-- the rotation up to which the table still loads
abbrev pub loads_to : ℤ
loads_to = pos 20

-- An arm is out in the press, and the press doesn't rest at that arm's position.
abbrev pub ArmHitsPress : PlantState → Type 0
ArmHitsPress p =
    (IsOut p.robot.arm1 × IsArm1InPress p.robot × (¬ RestsAtMiddle p.press))
    ⊎ (IsOut p.robot.arm2 × IsArm2InPress p.robot × (¬ RestsAtBottom p.press))

-- The table moves while the first arm is out over it.
abbrev pub TableHitsArm : PlantState → Type 0
TableHitsArm p = TableMoves p.table × IsOut p.robot.arm1 × IsArm1AtTable p.robot

-- The deposit belt runs under the second arm or under the lowered gripper, or with a plate at its end.
abbrev pub DepositBeltPulls : PlantState → Type 0
DepositBeltPulls p =
    IsTrue p.deposit.runs × ((IsOut p.robot.arm2 × IsArm2AtDeposit p.robot)
    ⊎ ((IsGripperDown p.crane × IsOverDeposit p.crane) ⊎ IsSome p.deposit.last))

-- The feed belt runs under the lowered gripper.
abbrev pub FeedBeltPulls : PlantState → Type 0
FeedBeltPulls p = IsTrue p.feed.runs × IsGripperDown p.crane × IsOverFeed p.crane

-- The crane travels while its gripper is down.
abbrev pub CraneTravelsLow : PlantState → Type 0
CraneTravelsLow p = IsOn p.crane.travel × IsGripperDown p.crane

-- The robot turns while an arm is out.
abbrev pub RobotTurnsWithArmOut : PlantState → Type 0
RobotTurnsWithArmOut p = IsOn p.robot.rotation × (IsOut p.robot.arm1 ⊎ IsOut p.robot.arm2)

-- The feed belt runs with a plate at its end while the table isn't ready to load.
abbrev pub PlateMissesTable : PlantState → Type 0
PlateMissesTable p =
    IsTrue p.feed.runs × IsSome p.feed.last
    × (TableMoves p.table ⊎ ((¬ IsTableBottom p.table.lift.position) ⊎ (loads_to <ℤ p.table.turn.position)))

-- A magnet drops its plate at a wrong place. The first arm may drop it in the press, the second over the deposit belt,
-- the crane close above the feed belt. The first state is before a turn, the second after its motors are set.
abbrev pub LetsGo : Bool → Bool → Type 0
LetsGo before now = (before ≡ true) × (now ≡ false)

-- an axis is within a stop's reach: where a drive to the stop ends
abbrev pub IsAt : Stop → Axis → Type 0
IsAt stop a = IsIn (record { first = stop.target -ℤ pos stop.half; last = stop.target +ℤ pos stop.half }) a.position

abbrev pub Arm1MayLetGo : RobotPlant → Type 0
Arm1MayLetGo r = IsAt ROTATION_ARM1_PRESS r.rotation × IsAt ARM1_PRESS r.arm1

abbrev pub Arm2MayLetGo : RobotPlant → Type 0
Arm2MayLetGo r = IsAt ROTATION_ARM2_DEPOSIT r.rotation × IsAt ARM2_DEPOSIT r.arm2

abbrev pub CraneMayLetGo : CranePlant → Type 0
CraneMayLetGo c = IsCraneAtFeed c.travel.position × IsAt GRIPPER_FEED c.gripper

abbrev pub PlateFalls : PlantState → PlantState → Type 0
PlateFalls before p =
    (LetsGo before.robot.magnet1 p.robot.magnet1 × (¬ Arm1MayLetGo p.robot))
    ⊎ ((LetsGo before.robot.magnet2 p.robot.magnet2 × (¬ Arm2MayLetGo p.robot))
    ⊎ (LetsGo before.crane.magnet p.crane.magnet × (¬ CraneMayLetGo p.crane)))

-- A machine drives one of its axes past an end in its turn: the axis is at that end, and its motor drives it outwards.
abbrev pub DrivesPast : ℤ → Axis → Type 0
DrivesPast end a = ((a.position ≡ pos 0) × (a.motor ≡ Minus)) ⊎ ((a.position ≡ end) × (a.motor ≡ Plus))

abbrev pub DrivesPastEnd : Machine → PlantState → Type 0
DrivesPastEnd Table p = DrivesPast lift_end p.table.lift ⊎ DrivesPast turn_end p.table.turn
DrivesPastEnd Robot p = DrivesPast arm_end p.robot.arm1 ⊎ (DrivesPast arm_end p.robot.arm2
    ⊎ DrivesPast rotation_end p.robot.rotation)
DrivesPastEnd Press p = DrivesPast press_end p.press
DrivesPastEnd Crane p = DrivesPast crane_end p.crane.travel ⊎ DrivesPast gripper_end p.crane.gripper
DrivesPastEnd Feed p = ⊥
DrivesPastEnd Deposit p = ⊥
DrivesPastEnd Watch p = ⊥

-- nothing collides in a state
pub record NothingCollides (p : PlantState) : Type 0 where
  pub arm_and_press : ¬ ArmHitsPress p
  pub table_and_arm : ¬ TableHitsArm p
  pub deposit_belt : ¬ DepositBeltPulls p
  pub feed_belt : ¬ FeedBeltPulls p
  pub crane : ¬ CraneTravelsLow p
  pub robot : ¬ RobotTurnsWithArmOut p
  pub plate_and_table : ¬ PlateMissesTable p

-- nothing collides once a machine's motors are set in its turn; here there are two more cases
pub record NothingCollidesWhenSet (m : Machine) (before p : PlantState) : Type 0 where
  pub plain : NothingCollides p
  pub magnets : ¬ PlateFalls before p
  pub ends : ¬ DrivesPastEnd m p
