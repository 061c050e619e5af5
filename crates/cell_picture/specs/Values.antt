-- What an animated attribute has of a frame.
use Rattle.std.specs.Prelude.{ℕ, ℤ, pos, neg_ℤ, Bool, true, false, List, [], ◌++◌, codes, Option, Some, None}
use Rattle.std.specs.Fmt.{signed_decimal}
use Rattle.cell_rules.specs.Types.{Machine, Feed, Table, Robot, Press, Deposit, Crane, Watch}
use Rattle.cell_rules.specs.Refusals.{owner_of}
use Rattle.cell_plant.specs.declared.frame.Frame.{Frame}
use Rattle.cell_picture.specs.declared.plates.Spot.{Spot}
use Rattle.cell_picture.specs.declared.values.Value.{Value}
use Rattle.cell_picture.specs.declared.values.Value.TheVariants.{FeedEdge, DepositEdge, OwnerColour, TableTurn}
use Rattle.cell_picture.specs.declared.values.Value.TheVariants.{TableHeight, PressHeight, RobotTurn}
use Rattle.cell_picture.specs.declared.values.Value.TheVariants.{Arm1, Arm2, CraneWay, GripperHeight, PlateShift}
use Rattle.cell_picture.specs.declared.values.Value.TheVariants.{PlateAngle, PlateReach, PlateForged}
use Rattle.cell_picture.specs.declared.values.Shown.{Shown}
use Rattle.cell_picture.specs.declared.values.Shown.TheVariants.{Nothing, Word, Number, Shift}
use Rattle.cell_picture.specs.Ramps.{ramp, ramp_at}
use Rattle.cell_picture.specs.Spots.{arm1_angle, crane_way, plate_spot}

-- the colour of an owner, grey if there is none
abbrev pub colour : Option Machine → List ℕ
colour None = codes "#ccc"
colour (Some Feed) = codes "#07b"
colour (Some Table) = codes "#0a7"
colour (Some Robot) = codes "#ea0"
colour (Some Press) = codes "#d50"
colour (Some Deposit) = codes "#c7a"
colour (Some Crane) = codes "#5be"
colour (Some Watch) = codes "#999"

-- a belt's edge is wide while it runs
abbrev pub edge : Bool → ℤ
edge true = pos 5
edge false = pos 1

abbrev pub one_if : Bool → ℤ
one_if true = pos 1
one_if false = pos 0

abbrev pub shift_text : ℤ → ℤ → List ℕ
shift_text right down = signed_decimal right ++ (codes " " ++ signed_decimal down)

abbrev pub spot_text : Value → Spot → List ℕ
spot_text PlateShift s = shift_text s.right s.down
spot_text PlateAngle s = signed_decimal s.angle
spot_text PlateReach s = signed_decimal s.reach
spot_text PlateForged s = signed_decimal (one_if s.is_forged)
spot_text _ s = []

abbrev pub shown_text : Shown → List ℕ
shown_text Nothing = []
shown_text (Word word) = word.now
shown_text (Number number) = signed_decimal number
shown_text (Shift right down) = shift_text right down

-- of a plate, if there is one
abbrev pub plate_text : Value → Option Spot → List ℕ
plate_text v None = []
plate_text v (Some spot) = spot_text v spot

-- the value at a frame; those of plates, of the plate with this number
unfoldable pub value_text : Value → ℕ → Frame → List ℕ
value_text FeedEdge n f = signed_decimal (edge f.plant.feed.runs)
value_text DepositEdge n f = signed_decimal (edge f.plant.deposit.runs)
value_text (OwnerColour z) n f = colour (owner_of f.state z)
value_text TableTurn n f = signed_decimal (ramp_at (ramp (pos 0) (pos 120)) f.plant.table.turn.position)
value_text TableHeight n f = signed_decimal (ramp_at (ramp (pos 124) (neg_ℤ (pos 40))) f.plant.table.lift.position)
value_text PressHeight n f = signed_decimal (ramp_at (ramp (pos 444) (neg_ℤ (pos 38))) f.plant.press.position)
value_text RobotTurn n f = signed_decimal (arm1_angle f.plant.robot)
value_text Arm1 n f = signed_decimal (ramp_at (ramp (pos 0) (pos 55)) f.plant.robot.arm1.position)
value_text Arm2 n f = signed_decimal (ramp_at (ramp (pos 0) (pos 55)) f.plant.robot.arm2.position)
value_text CraneWay n f = shift_text (pos 0) (crane_way f)
value_text GripperHeight n f = signed_decimal (ramp_at (ramp (pos 312) (neg_ℤ (pos 70))) f.plant.crane.gripper.position)
value_text PlateShift n f = plate_text PlateShift (plate_spot f n)
value_text PlateAngle n f = plate_text PlateAngle (plate_spot f n)
value_text PlateReach n f = plate_text PlateReach (plate_spot f n)
value_text PlateForged n f = plate_text PlateForged (plate_spot f n)
