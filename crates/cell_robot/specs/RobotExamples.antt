-- Examples of each row of the robot's program, with each state of its notes.
use Rattle.std.specs.Prelude.{◌≡◌, ◌≢◌, ℕ, pos, Bool, true, false, List, [], ◌∷◌, Option, Some, Ok, Err}
use Rattle.cell_rules.specs.Types.{Machine, Robot, Zone, Z2, Z3, Z4, Posture, OpenIn, OpenOut, Call, Claim, Give}
use Rattle.cell_rules.specs.Types.{Take, Release, Event}
use Rattle.cell_sensors.specs.Names.{Scale, RobotScales}
use Rattle.cell_sensors.specs.declared.sense.RobotSense.{RobotSense}
use Rattle.cell_sensors.specs.declared.sense.SensorFault.TheVariants.{Low, High, Clash}
use Rattle.cell_devices.specs.declared.motor.Motor.{Motor}
use Rattle.cell_devices.specs.declared.motor.Motor.TheVariants.{Off, Plus, Minus}
use Rattle.cell_devices.specs.declared.act.RobotAct.{RobotAct}
use Rattle.cell_rules.specs.Names.{ModelState, Holds, posture_by_events}
use Rattle.cell_control.specs.Names.{Steps, AskRow, InquiryRow, DriveRow, UntilFree, UntilOpen, NoOtherAnswers}
use Rattle.cell_robot.specs.declared.robot.RobotStep.{RobotStep}
use Rattle.cell_robot.specs.declared.robot.RobotStep.TheVariants.{TurnToTable, AwaitPlate, ReachTable, GripPlate}
use Rattle.cell_robot.specs.declared.robot.RobotStep.TheVariants.{LeaveTable, TakePlate, ReleaseTable, TurnToLoad}
use Rattle.cell_robot.specs.declared.robot.RobotStep.TheVariants.{ClaimPress, InspectPress, ReleasePress, ReachToLoad}
use Rattle.cell_robot.specs.declared.robot.RobotStep.TheVariants.{DropInPress, LeaveLoaded, GiveToPress, TurnToUnload}
use Rattle.cell_robot.specs.declared.robot.RobotStep.TheVariants.{AwaitForged, ReachToUnload, GripForged}
use Rattle.cell_robot.specs.declared.robot.RobotStep.TheVariants.{LeaveUnloaded, TakeForged, ReleaseUnloaded}
use Rattle.cell_robot.specs.declared.robot.RobotStep.TheVariants.{TurnToDeposit, ClaimDeposit, ReachDeposit}
use Rattle.cell_robot.specs.declared.robot.RobotStep.TheVariants.{DropOnDeposit, LeaveDeposit, GiveToDeposit}
use Rattle.cell_robot.specs.declared.robot.RobotNotes.{RobotNotes}
use Rattle.cell_robot.specs.declared.robot.RobotMagnets.{RobotMagnets}
use Rattle.cell_robot.specs.declared.robot.RobotProgress.{RobotProgress}
use Rattle.cell_robot.specs.declared.robot.RobotReading.{RobotReading}
use Rattle.cell_robot.specs.RobotProgram.{robot_steps, robot_scales, gauges_of, near_lines}

-- a step with its notes (a plate on the first arm, on the second arm, in the press) and the magnets of both arms
abbrev pub noted : Bool → Bool → Bool → RobotNotes
noted arm1 arm2 fed = record { arm1 = arm1; arm2 = arm2; fed = fed }

abbrev pub magnets : Bool → Bool → RobotMagnets
magnets first second = record { arm1 = first; arm2 = second }

abbrev pub at : RobotStep → RobotNotes → RobotMagnets → RobotProgress
at step notes on = record { step = step; notes = notes; magnets = on }

-- the commands to both arms, the rotation and the magnets
abbrev pub act_of : Motor → Motor → Motor → RobotMagnets → RobotAct
act_of first second turn on = record {
  arm1 = first;
  arm2 = second;
  rotation = turn;
  magnet1 = on.arm1;
  magnet2 = on.arm2;
}

-- the raw values of the three sensors, and what they say: positions, and whether both arms are surely retracted
abbrev pub shown : ℕ → ℕ → ℕ → RobotSense
shown first second turn = record { arm1 = first; arm2 = second; rotation = turn }

abbrev pub reads : ℕ → ℕ → ℕ → Bool → RobotReading
reads first second turn retracted = record {
  arm1 = pos first;
  arm2 = pos second;
  rotation = pos turn;
  retracted = retracted;
}

-- with gauges that may give any position near their lines
abbrev pub rows_by : RobotScales → Steps RobotProgress RobotSense RobotReading RobotAct
rows_by points = robot_steps points (near_lines points)

-- ---- the start of the program, by the places that are full

-- whether a plate is on arm 1, an unforged one in the press, a forged one in the press, and one on arm 2
abbrev pub begins_with : Bool → Bool → Bool → Bool → RobotProgress
begins_with false false false false = at TurnToTable (noted false false false) (magnets false false)
begins_with true false false false = at TurnToLoad (noted true false false) (magnets true false)
begins_with false true false false = at TurnToUnload (noted false false true) (magnets false false)
begins_with true true false false = at TurnToUnload (noted true false true) (magnets true false)
begins_with false false true false = at TurnToUnload (noted false false true) (magnets false false)
begins_with true false true false = at TurnToUnload (noted true false true) (magnets true false)
begins_with false true true false = at TurnToUnload (noted false false true) (magnets false false)
begins_with true true true false = at TurnToUnload (noted true false true) (magnets true false)
begins_with false false false true = at TurnToDeposit (noted false true false) (magnets false true)
begins_with true false false true = at TurnToDeposit (noted true true false) (magnets true true)
begins_with false true false true = at TurnToDeposit (noted false true true) (magnets false true)
begins_with true true false true = at TurnToDeposit (noted true true true) (magnets true true)
begins_with false false true true = at TurnToDeposit (noted false true true) (magnets false true)
begins_with true false true true = at TurnToDeposit (noted true true true) (magnets true true)
begins_with false true true true = at TurnToDeposit (noted false true true) (magnets false true)
begins_with true true true true = at TurnToDeposit (noted true true true) (magnets true true)

-- the start depends on the full places and on nothing else
pub record RobotStarts (points : RobotScales) : Type 0 where
  pub whose : (rows_by points).machine ≡ Robot
  pub by_places : (s : ModelState)
      → (rows_by points).start s ≡ begins_with s.full.arm1 s.full.press_in s.full.press_out s.full.arm2

-- ---- steps that ask

-- an inquiry for a plate leads on if the zone is the robot's and has a plate; otherwise the step stays
abbrev pub for_plate : RobotStep → RobotStep → Option Machine → Bool → RobotStep
for_plate wait next (Some Robot) true = next
for_plate wait next _ _ = wait

-- an inquiry for room leads on if the zone is open inward
abbrev pub for_room : RobotStep → RobotStep → Posture → RobotStep
for_room leave next OpenIn = next
for_room leave next _ = leave

-- a call that ends a group of steps: a forged plate on the second arm is next, then a plate in the press, then one on
-- the first arm
pub record EndRows (points : RobotScales) (step : RobotStep) (call : Call) (m : RobotMagnets) : Type 0 where
  pub to_deposit : (arm1 fed : Bool)
      → AskRow (rows_by points) (at step (noted arm1 true fed) m) call [] (at TurnToDeposit (noted arm1 true fed) m)
  pub to_unload : (arm1 : Bool) → AskRow (rows_by points) (at step (noted arm1 false true) m) call []
      (at TurnToUnload (noted arm1 false true) m)
  pub to_load : AskRow (rows_by points) (at step (noted true false false) m) call []
      (at TurnToLoad (noted true false false) m)
  pub to_table : AskRow (rows_by points) (at step (noted false false false) m) call []
      (at TurnToTable (noted false false false) m)

pub record RobotAsks (points : RobotScales) (arm1 arm2 fed : Bool) (m : RobotMagnets) : Type 0 where
  pub awaits_plate : InquiryRow (rows_by points) (at AwaitPlate (noted arm1 arm2 fed) m) Z2
      (λ owner flag posture. at (for_plate AwaitPlate ReachTable owner flag) (noted arm1 arm2 fed) m)
  pub takes : AskRow (rows_by points) (at TakePlate (noted arm1 arm2 fed) m) (Take Z2) []
      (at ReleaseTable (noted true arm2 fed) m)
  pub releases_table : EndRows points ReleaseTable (Release Z2) m
  pub claims_press : AskRow (rows_by points) (at ClaimPress (noted arm1 arm2 fed) m) (Claim Z3)
      (UntilFree ∷ UntilOpen ∷ []) (at InspectPress (noted arm1 arm2 fed) m)
  pub inspects : InquiryRow (rows_by points) (at InspectPress (noted arm1 arm2 fed) m) Z3
      (λ owner flag posture. at (for_room ReleasePress ReachToLoad posture) (noted arm1 arm2 fed) m)
  pub releases_press : AskRow (rows_by points) (at ReleasePress (noted arm1 arm2 fed) m) (Release Z3) []
      (at ClaimPress (noted arm1 arm2 fed) m)
  pub gives_to_press : AskRow (rows_by points) (at GiveToPress (noted arm1 false fed) m) (Give Z3) []
      (at TurnToUnload (noted false false true) m)
  pub gives_to_press_beside_forged
      : AskRow (rows_by points) (at GiveToPress (noted arm1 true fed) m) (Give Z3) []
      (at TurnToDeposit (noted false true true) m)
  pub awaits_forged : InquiryRow (rows_by points) (at AwaitForged (noted arm1 arm2 fed) m) Z3
      (λ owner flag posture. at (for_plate AwaitForged ReachToUnload owner flag) (noted arm1 arm2 fed) m)
  pub takes_forged : AskRow (rows_by points) (at TakeForged (noted arm1 arm2 fed) m) (Take Z3) []
      (at ReleaseUnloaded (noted arm1 true false) m)
  pub releases_unloaded : EndRows points ReleaseUnloaded (Release Z3) m
  pub claims_deposit : AskRow (rows_by points) (at ClaimDeposit (noted arm1 arm2 fed) m) (Claim Z4)
      (UntilFree ∷ UntilOpen ∷ []) (at ReachDeposit (noted arm1 arm2 fed) m)
  pub gives_to_deposit : AskRow (rows_by points) (at GiveToDeposit (noted false arm2 false) m) (Give Z4) []
      (at TurnToTable (noted false false false) m)
  pub gives_to_deposit_before_load
      : AskRow (rows_by points) (at GiveToDeposit (noted true arm2 false) m) (Give Z4) []
      (at TurnToLoad (noted true false false) m)
  pub gives_to_deposit_before_unload
      : AskRow (rows_by points) (at GiveToDeposit (noted arm1 arm2 true) m) (Give Z4) []
      (at TurnToUnload (noted arm1 false true) m)

-- ---- steps that drive

-- raw values from 100 to 4100 and tolerances of 5, 6 and 7, so a motor is off within 35, 34 and 33 of its target
abbrev pub scale_to : ℕ → ℕ → Scale
scale_to end tol = record { raw_lo = 100; raw_hi = 4100; at_lo = pos 0; at_hi = pos end; tol = pos tol }

abbrev pub scales : RobotScales
scales = robot_scales (scale_to 1000 5) (scale_to 1000 6) (scale_to 2000 7)

abbrev pub Drives : RobotStep → RobotReading → RobotAct → RobotStep → RobotNotes → RobotMagnets → Type 0
Drives step reading act next n m = DriveRow (rows_by scales) (at step n m) reading act (at next n m)

-- a step that turns: the motor is off from one position to another, and the step is then done; while an arm may be
-- out, the motor is off too, and the step isn't done
pub record TurnRows (step next : RobotStep) (below first last above : ℕ) (n : RobotNotes) (m : RobotMagnets)
    : Type 0 where
  pub up : Drives step (reads 0 0 below true) (act_of Off Off Plus m) step n m
  pub from : Drives step (reads 0 0 first true) (act_of Off Off Off m) next n m
  pub to : Drives step (reads 0 0 last true) (act_of Off Off Off m) next n m
  pub down : Drives step (reads 0 0 above true) (act_of Off Off Minus m) step n m
  pub held_below : Drives step (reads 46 0 below false) (act_of Off Off Off m) step n m
  pub held_there : Drives step (reads 0 45 first false) (act_of Off Off Off m) step n m
  pub held_above : Drives step (reads 46 45 above false) (act_of Off Off Off m) step n m

-- steps that put out an arm or draw it back, at any rotation
pub record Arm1Rows (step next : RobotStep) (below first last above : ℕ) (turn : ℕ) (retracted : Bool)
    (n : RobotNotes) (m : RobotMagnets) : Type 0 where
  pub out : Drives step (reads below 0 turn retracted) (act_of Plus Off Off m) step n m
  pub from : Drives step (reads first 0 turn retracted) (act_of Off Off Off m) next n m
  pub to : Drives step (reads last 0 turn retracted) (act_of Off Off Off m) next n m
  pub back : Drives step (reads above 0 turn retracted) (act_of Minus Off Off m) step n m

pub record Arm2Rows (step next : RobotStep) (below first last above : ℕ) (turn : ℕ) (retracted : Bool)
    (n : RobotNotes) (m : RobotMagnets) : Type 0 where
  pub out : Drives step (reads 0 below turn retracted) (act_of Off Plus Off m) step n m
  pub from : Drives step (reads 0 first turn retracted) (act_of Off Off Off m) next n m
  pub to : Drives step (reads 0 last turn retracted) (act_of Off Off Off m) next n m
  pub back : Drives step (reads 0 above turn retracted) (act_of Off Minus Off m) step n m

pub record Arm1BackRows (step next : RobotStep) (turn : ℕ) (retracted : Bool) (n : RobotNotes) (m : RobotMagnets)
    : Type 0 where
  pub out : Drives step (reads 36 0 turn retracted) (act_of Minus Off Off m) step n m
  pub near_end : Drives step (reads 35 0 turn retracted) (act_of Off Off Off m) next n m
  pub at_end : Drives step (reads 0 0 turn retracted) (act_of Off Off Off m) next n m

pub record Arm2BackRows (step next : RobotStep) (turn : ℕ) (retracted : Bool) (n : RobotNotes) (m : RobotMagnets)
    : Type 0 where
  pub out : Drives step (reads 0 35 turn retracted) (act_of Off Minus Off m) step n m
  pub near_end : Drives step (reads 0 34 turn retracted) (act_of Off Off Off m) next n m
  pub at_end : Drives step (reads 0 0 turn retracted) (act_of Off Off Off m) next n m

-- a step that switches a magnet, by any reading
abbrev pub Switches : RobotStep → RobotMagnets → RobotReading → RobotStep → RobotMagnets → RobotNotes → Type 0
Switches step before reading next now n =
    DriveRow (rows_by scales) (at step n before) reading (act_of Off Off Off now) (at next n now)

pub record RobotDrives (turn : ℕ) (retracted : Bool) (r : RobotReading) (n : RobotNotes) (first second : Bool)
    : Type 0 where
  pub to_table : TurnRows TurnToTable AwaitPlate 266 267 333 334 n (magnets first second)
  pub to_load : TurnRows TurnToLoad ClaimPress 1466 1467 1533 1534 n (magnets first second)
  pub to_unload : TurnRows TurnToUnload AwaitForged 566 567 633 634 n (magnets first second)
  pub to_deposit : TurnRows TurnToDeposit ClaimDeposit 1766 1767 1833 1834 n (magnets first second)
  pub reaches_table : Arm1Rows ReachTable GripPlate 564 565 635 636 turn retracted n (magnets first second)
  pub leaves_table : Arm1BackRows LeaveTable TakePlate turn retracted n (magnets first second)
  pub reaches_to_load : Arm1Rows ReachToLoad DropInPress 764 765 835 836 turn retracted n (magnets first second)
  pub leaves_loaded : Arm1BackRows LeaveLoaded GiveToPress turn retracted n (magnets first second)
  pub reaches_to_unload : Arm2Rows ReachToUnload GripForged 765 766 834 835 turn retracted n (magnets first second)
  pub leaves_unloaded : Arm2BackRows LeaveUnloaded TakeForged turn retracted n (magnets first second)
  pub reaches_deposit : Arm2Rows ReachDeposit DropOnDeposit 565 566 634 635 turn retracted n (magnets first second)
  pub leaves_deposit : Arm2BackRows LeaveDeposit GiveToDeposit turn retracted n (magnets first second)
  pub grips : Switches GripPlate (magnets first second) r LeaveTable (magnets true second) n
  pub drops : Switches DropInPress (magnets first second) r LeaveLoaded (magnets false second) n
  pub grips_forged : Switches GripForged (magnets first second) r LeaveUnloaded (magnets first true) n
  pub drops_forged : Switches DropOnDeposit (magnets first second) r LeaveDeposit (magnets first false) n

-- ---- sensors

-- gauges that give 3, 4 and 5 at every raw value; at 100 these are near their lines
abbrev pub three_to_five : Steps RobotProgress RobotSense RobotReading RobotAct
three_to_five = robot_steps scales (gauges_of (λ raw v. v ≡ pos 3) (λ raw v. v ≡ pos 4) (λ raw v. v ≡ pos 5))

-- a sensor can't be used: the check says so, and there is no reading
pub record LowRow (s : RobotSense) : Type 0 where
  pub low : (rows_by scales).senses s (Err Low)
  pub not_high : ¬ (rows_by scales).senses s (Err High)
  pub no_reading : (r : RobotReading) → ¬ (rows_by scales).senses s (Ok r)

pub record HighRow (s : RobotSense) : Type 0 where
  pub high : (rows_by scales).senses s (Err High)
  pub not_low : ¬ (rows_by scales).senses s (Err Low)
  pub no_reading : (r : RobotReading) → ¬ (rows_by scales).senses s (Ok r)

pub record RobotChecks : Type 0 where
  pub arm1_low : LowRow (shown 99 100 100)
  pub arm2_low : LowRow (shown 100 99 100)
  pub rotation_low : LowRow (shown 100 100 99)
  pub arm1_high : HighRow (shown 4101 4100 4100)
  pub arm2_high : HighRow (shown 4100 4101 4100)
  pub rotation_high : HighRow (shown 4100 4100 4101)
  pub arm1_before_arm2 : HighRow (shown 4101 99 100)
  pub arm1_before_rotation : LowRow (shown 99 100 4101)
  pub arm2_before_rotation : HighRow (shown 100 4101 99)
  pub none_low : ¬ (rows_by scales).senses (shown 100 100 100) (Err Low)
  pub none_high : ¬ (rows_by scales).senses (shown 4100 4100 4100) (Err High)
  pub no_clash : (s : RobotSense) → ¬ (rows_by scales).senses s (Err Clash)
  pub by_gauges : three_to_five.senses (shown 100 100 100) (Ok (reads 3 4 5 true))
  pub arm1_not_by_line : ¬ three_to_five.senses (shown 100 100 100) (Ok (reads 0 4 5 true))
  pub arm2_not_by_line : ¬ three_to_five.senses (shown 100 100 100) (Ok (reads 3 0 5 true))
  pub rotation_not_by_line : ¬ three_to_five.senses (shown 100 100 100) (Ok (reads 3 4 0 true))
  pub both_in : (rows_by scales).senses (shown 280 276 100) (Ok (reads 45 44 0 true))
  pub both_in_is_seen : ¬ (rows_by scales).senses (shown 280 276 100) (Ok (reads 45 44 0 false))
  pub arm1_may_be_out : (rows_by scales).senses (shown 284 276 100) (Ok (reads 46 44 0 false))
  pub arm1_out_is_seen : ¬ (rows_by scales).senses (shown 284 276 100) (Ok (reads 46 44 0 true))
  pub arm2_may_be_out : (rows_by scales).senses (shown 280 280 100) (Ok (reads 45 45 0 false))
  pub arm2_out_is_seen : ¬ (rows_by scales).senses (shown 280 280 100) (Ok (reads 45 45 0 true))

-- ---- what motors demand

pub record HasZone (opening : ModelState) (seen : List Event) (zone : Zone) (posture : Posture) : Type 0 where
  pub holds : Holds opening seen Robot zone
  pub stands : posture_by_events opening seen zone ≡ posture

abbrev pub Arm1Demands : RobotStep → Zone → Posture → Type 0
Arm1Demands step zone posture = (points : RobotScales) (n : RobotNotes) (m : RobotMagnets) (act : RobotAct)
    (opening : ModelState) (seen : List Event) → act.arm1 ≢ Off
    → (rows_by points).motor_demands (at step n m) act opening seen → HasZone opening seen zone posture

abbrev pub Arm2Demands : RobotStep → Zone → Posture → Type 0
Arm2Demands step zone posture = (points : RobotScales) (n : RobotNotes) (m : RobotMagnets) (act : RobotAct)
    (opening : ModelState) (seen : List Event) → act.arm2 ≢ Off
    → (rows_by points).motor_demands (at step n m) act opening seen → HasZone opening seen zone posture

pub record RobotDemandRows : Type 0 where
  pub reaches_table : Arm1Demands ReachTable Z2 OpenOut
  pub leaves_table : Arm1Demands LeaveTable Z2 OpenOut
  pub reaches_to_load : Arm1Demands ReachToLoad Z3 OpenIn
  pub leaves_loaded : Arm1Demands LeaveLoaded Z3 OpenIn
  pub reaches_to_unload : Arm2Demands ReachToUnload Z3 OpenOut
  pub leaves_unloaded : Arm2Demands LeaveUnloaded Z3 OpenOut
  pub reaches_deposit : Arm2Demands ReachDeposit Z4 OpenIn
  pub leaves_deposit : Arm2Demands LeaveDeposit Z4 OpenIn

-- all rows; in a step that asks, the motors are off and the magnets are as last set
pub record RobotRowsAreMet : Type 0 where
  pub starts : (points : RobotScales) → RobotStarts points
  pub asks : (points : RobotScales) (arm1 arm2 fed : Bool) (m : RobotMagnets) → RobotAsks points arm1 arm2 fed m
  pub drives : (turn : ℕ) (retracted : Bool) (r : RobotReading) (n : RobotNotes) (first second : Bool)
      → RobotDrives turn retracted r n first second
  pub checks : RobotChecks
  pub no_other_answers : (points : RobotScales) → NoOtherAnswers (rows_by points)
  pub rests : (points : RobotScales) (step : RobotStep) (n : RobotNotes) (m : RobotMagnets)
      → (rows_by points).rest (at step n m) ≡ act_of Off Off Off m
  pub demands : RobotDemandRows
