-- The robot's program, row by row.
use Rattle.std.specs.Prelude.{◌≡◌, ◌≢◌, ℕ, ◌<◌, ◌≤◌, ◌⊎◌, ℤ, ◌-ℤ◌, ◌≤ℤ◌, Bool, true, false, ◌&&◌, ◌||◌, not, ◌↔◌}
use Rattle.std.specs.Prelude.{IsTrue, if◌then◌else◌, List, Option, Some, None, Result, Ok, Err}
use Rattle.cell_rules.specs.Types.{Machine, Robot, Zone, Z2, Z3, Z4, Arm1, PressIn, PressOut, Arm2, Posture, OpenIn}
use Rattle.cell_rules.specs.Types.{OpenOut, Call, Claim, Give, Take, Release, Inquire, Event}
use Rattle.cell_sensors.specs.Names.{Scale, IsReading, RobotScales}
use Rattle.cell_sensors.specs.declared.sense.RobotSense.{RobotSense}
use Rattle.cell_sensors.specs.declared.sense.SensorFault.{SensorFault}
use Rattle.cell_sensors.specs.declared.sense.SensorFault.TheVariants.{Low, High, Clash}
use Rattle.cell_devices.specs.Names.{DrivesTo, retracted_to}
use Rattle.cell_devices.specs.declared.motor.Motor.{Motor}
use Rattle.cell_devices.specs.declared.motor.Motor.TheVariants.{Off}
use Rattle.cell_devices.specs.declared.stops.Stop.{Stop}
use Rattle.cell_devices.specs.declared.stops.TheConstants.{ROTATION_ARM1_TABLE, ROTATION_ARM2_PRESS}
use Rattle.cell_devices.specs.declared.stops.TheConstants.{ROTATION_ARM1_PRESS, ROTATION_ARM2_DEPOSIT, ARM1_TABLE}
use Rattle.cell_devices.specs.declared.stops.TheConstants.{ARM1_PRESS, ARM2_PRESS, ARM2_DEPOSIT, RETRACTED}
use Rattle.cell_devices.specs.declared.act.RobotAct.{RobotAct}
use Rattle.cell_rules.specs.ModelState.{ModelState, is_full}
use Rattle.cell_control.specs.Names.{row_that_asks, row_that_drives, with_waits, Steps, HoldsIn}
use Rattle.cell_control.specs.declared.row.Row.{Row}
use Rattle.cell_control.specs.declared.row.Waits.TheVariants.{UntilFreeAndOpen}
use Rattle.cell_robot.specs.declared.robot.RobotStep.{RobotStep}
use Rattle.cell_robot.specs.declared.robot.RobotStep.TheVariants.{TurnToTable, AwaitPlate, ReachTable, GripPlate}
use Rattle.cell_robot.specs.declared.robot.RobotStep.TheVariants.{LeaveTable, TakePlate, ReleaseTable, TurnToLoad}
use Rattle.cell_robot.specs.declared.robot.RobotStep.TheVariants.{ClaimPress, InspectPress, ReleasePress, ReachToLoad}
use Rattle.cell_robot.specs.declared.robot.RobotStep.TheVariants.{DropInPress, LeaveLoaded, GiveToPress, TurnToUnload}
use Rattle.cell_robot.specs.declared.robot.RobotStep.TheVariants.{AwaitForged, ReachToUnload, GripForged}
use Rattle.cell_robot.specs.declared.robot.RobotStep.TheVariants.{LeaveUnloaded, TakeForged, ReleaseUnloaded}
use Rattle.cell_robot.specs.declared.robot.RobotStep.TheVariants.{TurnToDeposit, ClaimDeposit, ReachDeposit}
use Rattle.cell_robot.specs.declared.robot.RobotStep.TheVariants.{DropOnDeposit, LeaveDeposit, GiveToDeposit}
use Rattle.cell_robot.specs.declared.robot.RobotNotes.{RobotNotes}
use Rattle.cell_robot.specs.declared.robot.RobotProgress.{RobotProgress}
use Rattle.cell_robot.specs.declared.robot.RobotReading.{RobotReading}

-- the first step of the next group: bring a forged plate on the second arm away, else fetch a plate from the press,
-- else bring a plate on the first arm to the press
abbrev pub choice : RobotNotes → RobotStep
choice notes = if notes.arm2 then TurnToDeposit else (if notes.fed then TurnToUnload
    else (if notes.arm1 then TurnToLoad else TurnToTable))

-- the row of a step that asks, of one that asks and leads to the next group, of one that claims a zone and waits until
-- the zone lets it in, and of one that drives or switches a magnet
abbrev pub asks : RobotProgress → Call → RobotStep → Row RobotProgress
asks p call next = row_that_asks call (record p { step = next })

abbrev pub asks_by_notes : RobotProgress → Call → Row RobotProgress
asks_by_notes p call = asks p call (choice p.notes)

abbrev pub claims : RobotProgress → Zone → RobotStep → Row RobotProgress
claims p zone next = with_waits (asks p (Claim zone) next) UntilFreeAndOpen

abbrev pub drives : RobotProgress → RobotStep → Row RobotProgress
drives p next = row_that_drives (record p { step = next })

-- with another note: whether a plate is on the first arm, on the second arm and in the press
abbrev pub with_arm1 : RobotProgress → Bool → RobotProgress
with_arm1 p arm1 = record p { notes = record p.notes { arm1 = arm1 } }

abbrev pub with_arm2 : RobotProgress → Bool → RobotProgress
with_arm2 p arm2 = record p { notes = record p.notes { arm2 = arm2 } }

abbrev pub with_fed : RobotProgress → Bool → RobotProgress
with_fed p fed = record p { notes = record p.notes { fed = fed } }

-- with another command to a magnet
abbrev pub with_magnet1 : RobotProgress → Bool → RobotProgress
with_magnet1 p on = record p { magnets = record p.magnets { arm1 = on } }

abbrev pub with_magnet2 : RobotProgress → Bool → RobotProgress
with_magnet2 p on = record p { magnets = record p.magnets { arm2 = on } }

-- the row of each step: what it asks, what it waits for, and the next step with its notes; an inquiry isn't done, and
-- leads on by what it shows
abbrev pub row_of_arm2 : RobotStep → RobotProgress → Row RobotProgress
row_of_arm2 TurnToUnload p = drives p AwaitForged
row_of_arm2 AwaitForged p = asks p (Inquire Z3) AwaitForged
row_of_arm2 ReachToUnload p = drives p GripForged
row_of_arm2 GripForged p = drives (with_magnet2 p true) LeaveUnloaded
row_of_arm2 LeaveUnloaded p = drives p TakeForged
row_of_arm2 TakeForged p = asks (with_fed (with_arm2 p true) false) (Take Z3) ReleaseUnloaded
row_of_arm2 ReleaseUnloaded p = asks_by_notes p (Release Z3)
row_of_arm2 TurnToDeposit p = drives p ClaimDeposit
row_of_arm2 ClaimDeposit p = claims p Z4 ReachDeposit
row_of_arm2 ReachDeposit p = drives p DropOnDeposit
row_of_arm2 DropOnDeposit p = drives (with_magnet2 p false) LeaveDeposit
row_of_arm2 LeaveDeposit p = drives p GiveToDeposit
row_of_arm2 GiveToDeposit p = asks_by_notes (with_arm2 p false) (Give Z4)
row_of_arm2 step p = drives p step

abbrev pub row_at : RobotStep → RobotProgress → Row RobotProgress
row_at TurnToTable p = drives p AwaitPlate
row_at AwaitPlate p = asks p (Inquire Z2) AwaitPlate
row_at ReachTable p = drives p GripPlate
row_at GripPlate p = drives (with_magnet1 p true) LeaveTable
row_at LeaveTable p = drives p TakePlate
row_at TakePlate p = asks (with_arm1 p true) (Take Z2) ReleaseTable
row_at ReleaseTable p = asks_by_notes p (Release Z2)
row_at TurnToLoad p = drives p ClaimPress
row_at ClaimPress p = claims p Z3 InspectPress
row_at InspectPress p = asks p (Inquire Z3) InspectPress
row_at ReleasePress p = asks p (Release Z3) ClaimPress
row_at ReachToLoad p = drives p DropInPress
row_at DropInPress p = drives (with_magnet1 p false) LeaveLoaded
row_at LeaveLoaded p = drives p GiveToPress
row_at GiveToPress p = asks_by_notes (with_fed (with_arm1 p false) true) (Give Z3)
row_at step p = row_of_arm2 step p

abbrev pub row_of : RobotProgress → Row RobotProgress
row_of p = row_at p.step p

abbrev pub after_done : RobotProgress → RobotProgress
after_done p = (row_of p).next

-- the next step after an inquiry: to a plate on the table or in the press if the zone is the robot's and has a plate;
-- into the press with a plate if its zone is open inward
abbrev pub step_after_inquiry : RobotStep → Option Machine → Bool → Posture → RobotStep
step_after_inquiry AwaitPlate (Some Robot) true _ = ReachTable
step_after_inquiry InspectPress _ _ OpenIn = ReachToLoad
step_after_inquiry InspectPress _ _ _ = ReleasePress
step_after_inquiry AwaitForged (Some Robot) true _ = ReachToUnload
step_after_inquiry step _ _ _ = step

-- at the start the robot notes its places, and the magnets of loaded arms are on
abbrev pub notes_at : ModelState → RobotNotes
notes_at s = record { arm1 = is_full s Arm1; arm2 = is_full s Arm2; fed = is_full s PressIn || is_full s PressOut }

abbrev pub robot_start : ModelState → RobotProgress
robot_start s = record {
  step = choice (notes_at s);
  notes = notes_at s;
  magnets = record { arm1 = is_full s Arm1; arm2 = is_full s Arm2 };
}

-- a raw value is in the calibration's range; or why it isn't
abbrev pub IsRaw : Scale → ℕ → Type 0
IsRaw points raw = (points.raw_lo ≤ raw) × (raw ≤ points.raw_hi)

abbrev pub Fails : Scale → ℕ → SensorFault → Type 0
Fails points raw Low = raw < points.raw_lo
Fails points raw High = points.raw_hi < raw
Fails points raw Clash = ⊥

-- what a potentiometer says: what its gauge gives there, near the line, or why it can't be used
abbrev pub ReadsAs : Scale → (ℕ → ℤ → Type 0) → ℕ → Result ℤ SensorFault → Type 0
ReadsAs points gives raw (Ok read) = IsRaw points raw × (IsReading points raw read × gives raw read)
ReadsAs points gives raw (Err fault) = Fails points raw fault

-- what the gauges of both arms and of the rotation may give at a raw value
pub record RobotGauges : Type 1 where
  pub arm1 : ℕ → ℤ → Type 0
  pub arm2 : ℕ → ℤ → Type 0
  pub rotation : ℕ → ℤ → Type 0

-- the points of their calibrations
abbrev pub robot_scales : Scale → Scale → Scale → RobotScales
robot_scales first second turn = record { arm1 = first; arm2 = second; rotation = turn }

abbrev pub gauges_of : (ℕ → ℤ → Type 0) → (ℕ → ℤ → Type 0) → (ℕ → ℤ → Type 0) → RobotGauges
gauges_of first second turn = record { arm1 = first; arm2 = second; rotation = turn }

-- gauges that may give any position near their lines
abbrev pub near_lines : RobotScales → RobotGauges
near_lines points = gauges_of (IsReading points.arm1) (IsReading points.arm2) (IsReading points.rotation)

-- both arms are surely retracted, by their readings
abbrev pub AreRetracted : RobotScales → ℤ → ℤ → Type 0
AreRetracted points first second = (first ≤ℤ (retracted_to -ℤ points.arm1.tol))
    × (second ≤ℤ (retracted_to -ℤ points.arm2.tol))

-- a reading of sensors that can all be used
pub record Reads (points : RobotScales) (gives : RobotGauges) (s : RobotSense) (r : RobotReading) : Type 0 where
  pub arm1 : ReadsAs points.arm1 gives.arm1 s.arm1 (Ok r.arm1)
  pub arm2 : ReadsAs points.arm2 gives.arm2 s.arm2 (Ok r.arm2)
  pub rotation : ReadsAs points.rotation gives.rotation s.rotation (Ok r.rotation)
  pub retracted : IsTrue r.retracted ↔ AreRetracted points r.arm1 r.arm2

-- the sensors are checked one by one, and the first that can't be used gives the fault
abbrev pub FirstFails : RobotScales → RobotSense → SensorFault → Type 0
FirstFails points s fault =
    Fails points.arm1 s.arm1 fault ⊎
    (IsRaw points.arm1 s.arm1 ×
    (Fails points.arm2 s.arm2 fault ⊎ (IsRaw points.arm2 s.arm2 × Fails points.rotation s.rotation fault)))

abbrev pub Senses : RobotScales → RobotGauges → RobotSense → Result RobotReading SensorFault → Type 0
Senses points gives s (Ok r) = Reads points gives s r
Senses points gives s (Err fault) = FirstFails points s fault

-- the rotation that a step turns to; it is driven only while both arms are retracted
abbrev pub rotation_stop : RobotStep → Option Stop
rotation_stop TurnToTable = Some ROTATION_ARM1_TABLE
rotation_stop TurnToLoad = Some ROTATION_ARM1_PRESS
rotation_stop TurnToUnload = Some ROTATION_ARM2_PRESS
rotation_stop TurnToDeposit = Some ROTATION_ARM2_DEPOSIT
rotation_stop _ = None

abbrev pub turns_to : RobotStep → Bool → Option Stop
turns_to step retracted = if retracted then rotation_stop step else None

-- the extension that a step drives each arm to
abbrev pub arm1_stop : RobotStep → Option Stop
arm1_stop ReachTable = Some ARM1_TABLE
arm1_stop LeaveTable = Some RETRACTED
arm1_stop ReachToLoad = Some ARM1_PRESS
arm1_stop LeaveLoaded = Some RETRACTED
arm1_stop _ = None

abbrev pub arm2_stop : RobotStep → Option Stop
arm2_stop ReachToUnload = Some ARM2_PRESS
arm2_stop LeaveUnloaded = Some RETRACTED
arm2_stop ReachDeposit = Some ARM2_DEPOSIT
arm2_stop LeaveDeposit = Some RETRACTED
arm2_stop _ = None

-- the commands to motors and magnets in a step that asks nothing; the magnets are already as the next step has them
pub record Acts (points : RobotScales) (p : RobotProgress) (r : RobotReading) (act : RobotAct) : Type 0 where
  pub arm1 : DrivesTo (arm1_stop p.step) points.arm1.tol r.arm1 act.arm1
  pub arm2 : DrivesTo (arm2_stop p.step) points.arm2.tol r.arm2 act.arm2
  pub rotation : DrivesTo (turns_to p.step r.retracted) points.rotation.tol r.rotation act.rotation
  pub magnet1 : act.magnet1 ≡ (row_of p).next.magnets.arm1
  pub magnet2 : act.magnet2 ≡ (row_of p).next.magnets.arm2

abbrev pub is_off : Motor → Bool
is_off Off = true
is_off _ = false

-- a step is done in the turn in which all motors are off; a step that turns also needs both arms retracted
abbrev pub turns : RobotStep → Bool
turns TurnToTable = true
turns TurnToLoad = true
turns TurnToUnload = true
turns TurnToDeposit = true
turns _ = false

abbrev pub is_done : RobotStep → Bool → RobotAct → Bool
is_done step retracted act = (not (turns step) || retracted)
    && (is_off act.arm1 && (is_off act.arm2 && is_off act.rotation))

abbrev pub after_act : RobotProgress → RobotReading → RobotAct → RobotProgress
after_act p r act = if is_done p.step r.retracted act then after_done p else p

-- the zone into which each arm is driven, and its posture
abbrev pub arm1_zone : RobotStep → Option (Zone × Posture)
arm1_zone ReachTable = Some (Z2, OpenOut)
arm1_zone LeaveTable = Some (Z2, OpenOut)
arm1_zone ReachToLoad = Some (Z3, OpenIn)
arm1_zone LeaveLoaded = Some (Z3, OpenIn)
arm1_zone _ = None

abbrev pub arm2_zone : RobotStep → Option (Zone × Posture)
arm2_zone ReachToUnload = Some (Z3, OpenOut)
arm2_zone LeaveUnloaded = Some (Z3, OpenOut)
arm2_zone ReachDeposit = Some (Z4, OpenIn)
arm2_zone LeaveDeposit = Some (Z4, OpenIn)
arm2_zone _ = None

-- while an arm's motor is on, the robot holds that zone, in that posture
pub record RobotDemands (step : RobotStep) (act : RobotAct) (opening : ModelState) (seen : List Event) : Type 0 where
  pub arm1 : act.arm1 ≢ Off → HoldsIn Robot opening seen (arm1_zone step)
  pub arm2 : act.arm2 ≢ Off → HoldsIn Robot opening seen (arm2_zone step)

-- in a step that asks, the motors are off and the magnets stay as they are
abbrev pub robot_rest : RobotProgress → RobotAct
robot_rest p = record { arm1 = Off; arm2 = Off; rotation = Off; magnet1 = p.magnets.arm1; magnet2 = p.magnets.arm2 }

-- the program, by the points of the calibrations and what their gauges may give
abbrev pub robot_steps : RobotScales → RobotGauges → Steps RobotProgress RobotSense RobotReading RobotAct
robot_steps points gives =
    record {
      machine = Robot;
      start = robot_start;
      row = row_of;
      after_inquiry = λ p owner flag posture. record p { step = step_after_inquiry p.step owner flag posture };
      senses = Senses points gives;
      drives = λ p r act. Acts points p r act;
      after_drive = λ p r act. after_act p r act;
      rest = robot_rest;
      motor_demands = λ p act opening seen. RobotDemands p.step act opening seen;
    }
