-- Examples of each row of the crane's program, with each state of its note.
use Rattle.std.specs.Prelude.{◌≡◌, ◌≢◌, ℕ, ℤ, pos, Bool, true, false, List, [], ◌∷◌, Option, Some, Ok, Err}
use Rattle.cell_rules.specs.Types.{Machine, Crane, Zone, Z5, Z6, Posture, OpenIn, OpenOut, Claim, Give, Take, Release}
use Rattle.cell_rules.specs.Types.{Event}
use Rattle.cell_sensors.specs.Names.{Scale, IsReading}
use Rattle.cell_sensors.specs.declared.sense.CraneSense.{CraneSense}
use Rattle.cell_sensors.specs.declared.sense.SensorFault.TheVariants.{Low, High, Clash}
use Rattle.cell_devices.specs.declared.motor.Motor.{Motor}
use Rattle.cell_devices.specs.declared.motor.Motor.TheVariants.{Off, Plus, Minus}
use Rattle.cell_devices.specs.declared.act.CraneAct.{CraneAct}
use Rattle.cell_rules.specs.Names.{ModelState, Holds, posture_by_events}
use Rattle.cell_control.specs.Names.{Steps, AskRow, InquiryRow, DriveRow, UntilFree, UntilOpen, NoOtherAnswers}
use Rattle.cell_belts_crane.specs.declared.crane.CraneStep.{CraneStep}
use Rattle.cell_belts_crane.specs.declared.crane.CraneStep.TheVariants.{RaiseToFetch, TravelToDeposit, AwaitPlate}
use Rattle.cell_belts_crane.specs.declared.crane.CraneStep.TheVariants.{LowerToPlate, GripPlate, RaiseWithPlate, TakePlate}
use Rattle.cell_belts_crane.specs.declared.crane.CraneStep.TheVariants.{ReleaseDeposit, TravelToFeed, ClaimFeed, LowerToFeed}
use Rattle.cell_belts_crane.specs.declared.crane.CraneStep.TheVariants.{DropPlate, RaiseFromFeed, GivePlate}
use Rattle.cell_belts_crane.specs.declared.crane.CraneProgress.{CraneProgress}
use Rattle.cell_belts_crane.specs.declared.crane.CraneReading.{CraneReading}
use Rattle.cell_belts_crane.specs.CraneProgram.{crane_steps}

-- a step, with whether the gripper's magnet is on
abbrev pub at : CraneStep → Bool → CraneProgress
at step magnet = record { step = step; magnet = magnet }

-- the commands to travel, height and magnet
abbrev pub act_of : Motor → Motor → Bool → CraneAct
act_of travel height magnet = record { travel = travel; height = height; magnet = magnet }

abbrev pub shown : Bool → Bool → ℕ → CraneSense
shown deposit feed gripper = record { deposit = deposit; feed = feed; gripper = gripper }

-- what the sensors say, by the switches, the gripper's height and whether it is high enough to travel
abbrev pub reads : Bool → Bool → ℕ → Bool → CraneReading
reads deposit feed gripper high = record { sense = shown deposit feed 0; gripper = pos gripper; high = high }

abbrev pub low_at : ℕ → CraneReading
low_at gripper = reads false false gripper false

abbrev pub high_at : ℕ → CraneReading
high_at gripper = reads false false gripper true

-- with a gauge that may give any position near the line
abbrev pub rows_by : Scale → Steps CraneProgress CraneSense CraneReading CraneAct
rows_by points = crane_steps points (IsReading points)

-- the start of the program, by whether a plate is on the crane
abbrev pub begins_with : Bool → CraneProgress
begins_with false = at RaiseToFetch false
begins_with true = at TravelToFeed true

-- the start depends on the full places and on nothing else
pub record CraneStarts (points : Scale) : Type 0 where
  pub whose : (rows_by points).machine ≡ Crane
  pub by_places : (s : ModelState) → (rows_by points).start s ≡ begins_with s.full.crane

-- the gripper goes down when the deposit belt has handed a plate over
abbrev pub awaits : Bool → Option Machine → Bool → Posture → CraneProgress
awaits magnet (Some Crane) true posture = at LowerToPlate magnet
awaits magnet owner flag posture = at AwaitPlate magnet

pub record CraneAsks (points : Scale) (magnet : Bool) : Type 0 where
  pub awaits_plate : InquiryRow (rows_by points) (at AwaitPlate magnet) Z5 (awaits magnet)
  pub takes : AskRow (rows_by points) (at TakePlate magnet) (Take Z5) [] (at ReleaseDeposit magnet)
  pub releases_deposit : AskRow (rows_by points) (at ReleaseDeposit magnet) (Release Z5) [] (at TravelToFeed magnet)
  pub claims_feed : AskRow (rows_by points) (at ClaimFeed magnet) (Claim Z6) (UntilFree ∷ UntilOpen ∷ [])
      (at LowerToFeed magnet)
  pub gives : AskRow (rows_by points) (at GivePlate magnet) (Give Z6) [] (at RaiseToFetch magnet)

-- raw values from 100 to 4100 and a tolerance of 5, so the height's motor is off within 45 of its target, and the
-- gripper is high from 805 on
abbrev pub scale : Scale
scale = record { raw_lo = 100; raw_hi = 4100; at_lo = pos 0; at_hi = pos 1000; tol = pos 5 }

abbrev pub Drives : CraneStep → Bool → CraneReading → CraneAct → CraneStep → Type 0
Drives step magnet reading act next = DriveRow (rows_by scale) (at step magnet) reading act (at next act.magnet)

-- the gripper goes to 900 to travel, to 100 at the deposit belt and to 300 at the feed belt
pub record GripperDrives (magnet : Bool) : Type 0 where
  pub raise_to_fetch : Drives RaiseToFetch magnet (high_at 854) (act_of Off Plus magnet) RaiseToFetch
  pub raise_to_fetch_too_far : Drives RaiseToFetch magnet (high_at 946) (act_of Off Minus magnet) RaiseToFetch
  pub raise_to_fetch_there_first : Drives RaiseToFetch magnet (high_at 855) (act_of Off Off magnet) TravelToDeposit
  pub raise_to_fetch_there_last : Drives RaiseToFetch magnet (high_at 945) (act_of Off Off magnet) TravelToDeposit
  pub lower_to_plate : Drives LowerToPlate magnet (low_at 146) (act_of Off Minus magnet) LowerToPlate
  pub lower_to_plate_too_far : Drives LowerToPlate magnet (low_at 54) (act_of Off Plus magnet) LowerToPlate
  pub lower_to_plate_there_first : Drives LowerToPlate magnet (low_at 55) (act_of Off Off magnet) GripPlate
  pub lower_to_plate_there_last : Drives LowerToPlate magnet (low_at 145) (act_of Off Off magnet) GripPlate
  pub raise_with_plate : Drives RaiseWithPlate magnet (high_at 854) (act_of Off Plus magnet) RaiseWithPlate
  pub raise_with_plate_too_far : Drives RaiseWithPlate magnet (high_at 946) (act_of Off Minus magnet) RaiseWithPlate
  pub raise_with_plate_there_first : Drives RaiseWithPlate magnet (high_at 855) (act_of Off Off magnet) TakePlate
  pub raise_with_plate_there_last : Drives RaiseWithPlate magnet (high_at 945) (act_of Off Off magnet) TakePlate
  pub lower_to_feed : Drives LowerToFeed magnet (low_at 346) (act_of Off Minus magnet) LowerToFeed
  pub lower_to_feed_too_far : Drives LowerToFeed magnet (low_at 254) (act_of Off Plus magnet) LowerToFeed
  pub lower_to_feed_there_first : Drives LowerToFeed magnet (low_at 255) (act_of Off Off magnet) DropPlate
  pub lower_to_feed_there_last : Drives LowerToFeed magnet (low_at 345) (act_of Off Off magnet) DropPlate
  pub raise_from_feed : Drives RaiseFromFeed magnet (high_at 854) (act_of Off Plus magnet) RaiseFromFeed
  pub raise_from_feed_too_far : Drives RaiseFromFeed magnet (high_at 946) (act_of Off Minus magnet) RaiseFromFeed
  pub raise_from_feed_there_first : Drives RaiseFromFeed magnet (high_at 855) (act_of Off Off magnet) GivePlate
  pub raise_from_feed_there_last : Drives RaiseFromFeed magnet (high_at 945) (act_of Off Off magnet) GivePlate

-- the crane travels only while the gripper is high; otherwise it stays, even at the switch that it travels to
pub record TravelDrives (magnet : Bool) (gripper : ℕ) : Type 0 where
  pub to_deposit : Drives TravelToDeposit magnet (high_at gripper) (act_of Minus Off magnet) TravelToDeposit
  pub to_deposit_at_feed : Drives TravelToDeposit magnet (reads false true gripper true)
      (act_of Minus Off magnet) TravelToDeposit
  pub to_deposit_there : Drives TravelToDeposit magnet (reads true false gripper true) (act_of Off Off magnet)
      AwaitPlate
  pub to_deposit_low : Drives TravelToDeposit magnet (low_at gripper) (act_of Off Off magnet) TravelToDeposit
  pub to_deposit_there_low : Drives TravelToDeposit magnet (reads true false gripper false)
      (act_of Off Off magnet) TravelToDeposit
  pub to_feed : Drives TravelToFeed magnet (high_at gripper) (act_of Plus Off magnet) TravelToFeed
  pub to_feed_at_deposit : Drives TravelToFeed magnet (reads true false gripper true)
      (act_of Plus Off magnet) TravelToFeed
  pub to_feed_there : Drives TravelToFeed magnet (reads false true gripper true) (act_of Off Off magnet) ClaimFeed
  pub to_feed_low : Drives TravelToFeed magnet (low_at gripper) (act_of Off Off magnet) TravelToFeed
  pub to_feed_there_low : Drives TravelToFeed magnet (reads false true gripper false) (act_of Off Off magnet)
      TravelToFeed

-- two steps switch the magnet, at any position of the crane
pub record MagnetSteps (magnet : Bool) (reading : CraneReading) : Type 0 where
  pub grips : Drives GripPlate magnet reading (act_of Off Off true) RaiseWithPlate
  pub drops : Drives DropPlate magnet reading (act_of Off Off false) RaiseFromFeed

-- gauges that give 3, 804 or 805 at every raw value; at 100, 3316 and 3320 these are near the line
abbrev pub gives_only : ℕ → ℕ → ℤ → Type 0
gives_only height raw v = v ≡ pos height

abbrev pub read_as : Bool → ℕ → ℕ → Bool → CraneReading
read_as deposit raw gripper high = record { sense = shown deposit false raw; gripper = pos gripper; high = high }

pub record CraneChecks : Type 0 where
  pub clash : (rows_by scale).senses (shown true true 100) (Err Clash)
  pub clash_is_no_reading : (r : CraneReading) → ¬ (rows_by scale).senses (shown true true 100) (Ok r)
  pub no_clash_at_deposit : ¬ (rows_by scale).senses (shown true false 100) (Err Clash)
  pub no_clash_at_feed : ¬ (rows_by scale).senses (shown false true 100) (Err Clash)
  pub clash_before_raw_value : ¬ (rows_by scale).senses (shown true true 99) (Err Low)
  pub clash_before_high_value : ¬ (rows_by scale).senses (shown true true 4101) (Err High)
  pub too_low : (rows_by scale).senses (shown false false 99) (Err Low)
  pub too_low_is_no_reading : (r : CraneReading) → ¬ (rows_by scale).senses (shown false false 99) (Ok r)
  pub not_too_low : ¬ (rows_by scale).senses (shown false false 100) (Err Low)
  pub too_high : (rows_by scale).senses (shown true false 4101) (Err High)
  pub too_high_is_no_reading : (r : CraneReading) → ¬ (rows_by scale).senses (shown true false 4101) (Ok r)
  pub not_too_high : ¬ (rows_by scale).senses (shown true false 4100) (Err High)
  pub switches_as_shown : (s : CraneSense) (r : CraneReading) → (rows_by scale).senses s (Ok r) → r.sense ≡ s
  pub by_gauge : (crane_steps scale (gives_only 3)).senses (shown true false 100) (Ok (read_as true 100 3 false))
  pub not_by_line : ¬ (crane_steps scale (gives_only 3)).senses (shown true false 100) (Ok (read_as true 100 0 false))
  pub high_first : (crane_steps scale (gives_only 805)).senses (shown false false 3320)
      (Ok (read_as false 3320 805 true))
  pub high_first_is_high : ¬ (crane_steps scale (gives_only 805)).senses (shown false false 3320)
      (Ok (read_as false 3320 805 false))
  pub low_last : (crane_steps scale (gives_only 804)).senses (shown false false 3316)
      (Ok (read_as false 3316 804 false))
  pub low_last_is_low : ¬ (crane_steps scale (gives_only 804)).senses (shown false false 3316)
      (Ok (read_as false 3316 804 true))

-- the crane holds a zone, which is open
abbrev pub HoldsOpen : ModelState → List Event → Zone → Posture → Type 0
HoldsOpen opening seen z q = Holds opening seen Crane z × (posture_by_events opening seen z ≡ q)

-- while the gripper is driven at a belt, the crane holds the belt's zone; raising it before travel demands no zone
pub record GripperDemands (points : Scale) (magnet on : Bool) (travel height : Motor) (opening : ModelState)
    (seen : List Event) : Type 0 where
  pub lower_to_plate : (rows_by points).motor_demands (at LowerToPlate magnet) (act_of travel height on) opening seen
      → HoldsOpen opening seen Z5 OpenOut
  pub raise_with_plate : (rows_by points).motor_demands (at RaiseWithPlate magnet)
      (act_of travel height on) opening seen → HoldsOpen opening seen Z5 OpenOut
  pub lower_to_feed : (rows_by points).motor_demands (at LowerToFeed magnet) (act_of travel height on) opening seen
      → HoldsOpen opening seen Z6 OpenIn
  pub raise_from_feed : (rows_by points).motor_demands (at RaiseFromFeed magnet) (act_of travel height on) opening seen
      → HoldsOpen opening seen Z6 OpenIn

-- all rows; in a step that asks, both motors are off, and the magnet is as it was
pub record CraneRowsAreMet : Type 0 where
  pub starts : (points : Scale) → CraneStarts points
  pub asks : (points : Scale) (magnet : Bool) → CraneAsks points magnet
  pub gripper : (magnet : Bool) → GripperDrives magnet
  pub travel : (magnet : Bool) (gripper : ℕ) → TravelDrives magnet gripper
  pub magnet : (magnet : Bool) (reading : CraneReading) → MagnetSteps magnet reading
  pub checks : CraneChecks
  pub no_other_answers : (points : Scale) → NoOtherAnswers (rows_by points)
  pub rests : (points : Scale) (step : CraneStep) (magnet : Bool)
      → (rows_by points).rest (at step magnet) ≡ act_of Off Off magnet
  pub demands : (points : Scale) (magnet on : Bool) (travel height : Motor) (opening : ModelState) (seen : List Event)
      → height ≢ Off → GripperDemands points magnet on travel height opening seen
