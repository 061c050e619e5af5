-- The axes of the plant, its belts, and the scales of its potentiometers. Each axis goes from 0 to its end.
use Rattle.std.specs.Prelude.{◌≡◌, ℤ, pos, ◌≤ℤ◌}
use Rattle.cell_sensors.specs.Names.{Scale, IsScale, RobotScales, raw_width}
use Rattle.cell_sensors.specs.declared.potentiometers.ByPotentiometer.{ByPotentiometer}

abbrev pub press_end : ℤ
press_end = pos 1000

abbrev pub arm_end : ℤ
arm_end = pos 1000

abbrev pub rotation_end : ℤ
rotation_end = pos 2000

abbrev pub lift_end : ℤ
lift_end = pos 600

abbrev pub turn_end : ℤ
turn_end = pos 500

abbrev pub crane_end : ℤ
crane_end = pos 2000

abbrev pub gripper_end : ℤ
gripper_end = pos 1000

-- how far an axis goes in a tick, and how far a running belt carries a plate
abbrev pub speed : ℤ
speed = pos 20

-- the start of the robot's rotation and of the gripper's height; the press starts at its end, everything else at 0
abbrev pub rotation_start : ℤ
rotation_start = pos 300

abbrev pub gripper_start : ℤ
gripper_start = pos 900

-- the end of a belt, and the start of a plate at its end
abbrev pub belt_end : ℤ
belt_end = pos 1100

abbrev pub feed_plate_start : ℤ
feed_plate_start = pos 900

abbrev pub deposit_plate_start : ℤ
deposit_plate_start = pos 1000

-- a scale for an axis: its positions are the axis's ends, and it has at least as many raw values as positions
pub record IsAxisScale (end : ℤ) (s : Scale) : Type 0 where
  pub scale : IsScale s
  pub from : s.at_lo ≡ pos 0
  pub to : s.at_hi ≡ end
  pub wide : end ≤ℤ raw_width s

-- the scales of the five potentiometers, and of the robot's three
abbrev pub CellScales : Type 0
CellScales = ByPotentiometer Scale

abbrev pub robot_points : CellScales → RobotScales
robot_points c = record { arm1 = c.arm1; arm2 = c.arm2; rotation = c.rotation }

pub record AreCellScales (c : CellScales) : Type 0 where
  pub arm1 : IsAxisScale arm_end c.arm1
  pub arm2 : IsAxisScale arm_end c.arm2
  pub rotation : IsAxisScale rotation_end c.rotation
  pub turn : IsAxisScale turn_end c.turn
  pub gripper : IsAxisScale gripper_end c.gripper

-- a position within the ends
pub record IsWithin (end position : ℤ) : Type 0 where
  pub first : pos 0 ≤ℤ position
  pub last : position ≤ℤ end

-- positions from a first to a last, both included
pub record Span : Type 0 where
  pub first : ℤ
  pub last : ℤ

abbrev pub IsIn : Span → ℤ → Type 0
IsIn s position = (s.first ≤ℤ position) × (position ≤ℤ s.last)
