-- The crane's program, row by row.
use Rattle.std.specs.Prelude.{◌≡◌, ◌≢◌, ◌<◌, ◌≤◌, ℕ, ℤ, ◌+ℤ◌, ◌≤ℤ◌, Bool, true, false, ◌&&◌, ◌||◌, not, ◌↔◌, IsTrue}
use Rattle.std.specs.Prelude.{if◌then◌else◌, List, [], ◌∷◌, Option, Some, None, Result, Ok, Err, codes}
use Rattle.cell_rules.specs.Types.{Machine, Crane, Zone, Z5, Z6, Posture, OpenIn, OpenOut, Call, Claim, Give, Take}
use Rattle.cell_rules.specs.Types.{Release, Inquire, Event}
use Rattle.cell_types.specs.declared.place.Place.TheVariants.{Crane as OnCrane}
use Rattle.cell_sensors.specs.Names.{Scale, IsReading}
use Rattle.cell_sensors.specs.declared.sense.CraneSense.{CraneSense}
use Rattle.cell_sensors.specs.declared.sense.SensorFault.{SensorFault}
use Rattle.cell_sensors.specs.declared.sense.SensorFault.TheVariants.{Low, High, Clash}
use Rattle.cell_sensors.specs.Sensors.{CraneClashes}
use Rattle.cell_devices.specs.Names.{DrivesTo, travel_from}
use Rattle.cell_devices.specs.declared.motor.Motor.{Motor}
use Rattle.cell_devices.specs.declared.motor.Motor.TheVariants.{Off, Plus, Minus}
use Rattle.cell_devices.specs.declared.stops.Stop.{Stop}
use Rattle.cell_devices.specs.declared.stops.TheConstants.{GRIPPER_DEPOSIT, GRIPPER_FEED, GRIPPER_TRAVEL}
use Rattle.cell_devices.specs.declared.act.CraneAct.{CraneAct}
use Rattle.cell_rules.specs.Names.{ModelState, is_full, same_flag, implies}
use Rattle.cell_control.specs.Names.{row_that_asks, row_that_drives, with_waits, Steps, HoldsIn}
use Rattle.cell_control.specs.Keeping.{posed, unposed, are_kept}
use Rattle.cell_control.specs.declared.row.Row.{Row}
use Rattle.cell_control.specs.declared.row.Waits.TheVariants.{UntilFreeAndOpen}
use Rattle.cell_control.specs.declared.share.Share.TheVariants.{Clear, Loaded, Held, Lent, Any}
use Rattle.cell_control.specs.declared.share.ZoneShare.{ZoneShare}
use Rattle.cell_belts_crane.specs.declared.crane.CraneShare.{CraneShare}
use Rattle.cell_belts_crane.specs.declared.crane.CraneStep.{CraneStep}
use Rattle.cell_belts_crane.specs.declared.crane.CraneStep.TheVariants.{RaiseToFetch, TravelToDeposit, AwaitPlate}
use Rattle.cell_belts_crane.specs.declared.crane.CraneStep.TheVariants.{LowerToPlate, GripPlate, RaiseWithPlate, TakePlate}
use Rattle.cell_belts_crane.specs.declared.crane.CraneStep.TheVariants.{ReleaseDeposit, TravelToFeed, ClaimFeed, LowerToFeed}
use Rattle.cell_belts_crane.specs.declared.crane.CraneStep.TheVariants.{DropPlate, RaiseFromFeed, GivePlate}
use Rattle.cell_belts_crane.specs.declared.crane.CraneProgress.{CraneProgress}
use Rattle.cell_belts_crane.specs.declared.crane.CraneReading.{CraneReading}

-- the row of a step that asks, and of one that drives or switches the magnet, by the next step
abbrev pub asks : CraneProgress → Call → CraneStep → Row CraneProgress
asks p call next = row_that_asks call (record p { step = next })

abbrev pub drives : CraneProgress → CraneStep → Row CraneProgress
drives p next = row_that_drives (record p { step = next })

-- with another note: whether the gripper's magnet is on
abbrev pub with_magnet : CraneProgress → Bool → CraneProgress
with_magnet p magnet = record p { magnet = magnet }

-- the row of each step: what it asks, what it waits for, and the next step with its note; an inquiry isn't done, and
-- leads on by what it shows
abbrev pub row_at : CraneStep → CraneProgress → Row CraneProgress
row_at RaiseToFetch p = drives p TravelToDeposit
row_at TravelToDeposit p = drives p AwaitPlate
row_at AwaitPlate p = asks p (Inquire Z5) AwaitPlate
row_at LowerToPlate p = drives p GripPlate
row_at GripPlate p = drives (with_magnet p true) RaiseWithPlate
row_at RaiseWithPlate p = drives p TakePlate
row_at TakePlate p = asks p (Take Z5) ReleaseDeposit
row_at ReleaseDeposit p = asks p (Release Z5) TravelToFeed
row_at TravelToFeed p = drives p ClaimFeed
row_at ClaimFeed p = with_waits (asks p (Claim Z6) LowerToFeed) UntilFreeAndOpen
row_at LowerToFeed p = drives p DropPlate
row_at DropPlate p = drives (with_magnet p false) RaiseFromFeed
row_at RaiseFromFeed p = drives p GivePlate
row_at GivePlate p = asks p (Give Z6) RaiseToFetch

abbrev pub row_of : CraneProgress → Row CraneProgress
row_of p = row_at p.step p

-- what the crane keeps at each step: of the zone that it shares with the deposit belt, of that with the feed belt, that it
-- has a plate, and whether its magnet is on
abbrev pub keeps : ZoneShare → ZoneShare → Bool → Bool → CraneShare
keeps deposit feed plate magnet = record { deposit = deposit; feed = feed; plate = plate; magnet = magnet }

abbrev pub keeps_at : CraneStep → CraneShare
keeps_at RaiseToFetch = keeps (unposed Any) (unposed Lent) false false
keeps_at TravelToDeposit = keeps (unposed Any) (unposed Lent) false false
keeps_at AwaitPlate = keeps (unposed Any) (unposed Lent) false false
keeps_at LowerToPlate = keeps (posed Loaded OpenOut) (unposed Lent) false false
keeps_at GripPlate = keeps (posed Loaded OpenOut) (unposed Lent) false false
keeps_at RaiseWithPlate = keeps (posed Loaded OpenOut) (unposed Lent) false true
keeps_at TakePlate = keeps (posed Loaded OpenOut) (unposed Lent) false true
keeps_at ReleaseDeposit = keeps (posed Clear OpenOut) (unposed Lent) true true
keeps_at TravelToFeed = keeps (unposed Any) (unposed Lent) true true
keeps_at ClaimFeed = keeps (unposed Any) (unposed Lent) true true
keeps_at LowerToFeed = keeps (unposed Any) (posed Held OpenIn) true true
keeps_at DropPlate = keeps (unposed Any) (posed Held OpenIn) true true
keeps_at RaiseFromFeed = keeps (unposed Any) (posed Held OpenIn) true false
keeps_at GivePlate = keeps (unposed Any) (posed Held OpenIn) true false

-- the number of each step, and the steps in that order
abbrev pub number_at : CraneStep → ℕ
number_at RaiseToFetch = 0
number_at TravelToDeposit = 1
number_at AwaitPlate = 2
number_at LowerToPlate = 3
number_at GripPlate = 4
number_at RaiseWithPlate = 5
number_at TakePlate = 6
number_at ReleaseDeposit = 7
number_at TravelToFeed = 8
number_at ClaimFeed = 9
number_at LowerToFeed = 10
number_at DropPlate = 11
number_at RaiseFromFeed = 12
number_at GivePlate = 13

-- the word of a step, as films show it
abbrev pub word_at : CraneStep → List ℕ
word_at RaiseToFetch = codes "raise to fetch"
word_at TravelToDeposit = codes "travel to deposit"
word_at AwaitPlate = codes "await plate"
word_at LowerToPlate = codes "lower to plate"
word_at GripPlate = codes "grip plate"
word_at RaiseWithPlate = codes "raise with plate"
word_at TakePlate = codes "take plate"
word_at ReleaseDeposit = codes "release deposit"
word_at TravelToFeed = codes "travel to feed"
word_at ClaimFeed = codes "claim feed"
word_at LowerToFeed = codes "lower to feed"
word_at DropPlate = codes "drop plate"
word_at RaiseFromFeed = codes "raise from feed"
word_at GivePlate = codes "give plate"

abbrev pub steps : List CraneStep
steps =
    RaiseToFetch ∷ TravelToDeposit ∷ AwaitPlate ∷ LowerToPlate ∷ GripPlate ∷ RaiseWithPlate ∷ TakePlate ∷
    ReleaseDeposit ∷ TravelToFeed ∷ ClaimFeed ∷ LowerToFeed ∷ DropPlate ∷ RaiseFromFeed ∷ GivePlate ∷ []

-- its zones, with its shares
abbrev pub zones_at : CraneStep → List (Zone × ZoneShare)
zones_at step = (Z5, (keeps_at step).deposit) ∷ (Z6, (keeps_at step).feed) ∷ []

-- the step is in step with a state: the zones, its plate and its magnet are as it keeps them
abbrev pub in_step : CraneProgress → ModelState → Bool
in_step p s =
    are_kept (zones_at p.step) Crane s
    && (implies (keeps_at p.step).plate (is_full s OnCrane) && same_flag (keeps_at p.step).magnet p.magnet)

abbrev pub after_done : CraneProgress → CraneProgress
after_done p = (row_of p).next

-- an inquiry leads on if it shows that the zone is the crane's and has a plate
abbrev pub step_after_inquiry : CraneStep → Option Machine → Bool → CraneStep
step_after_inquiry AwaitPlate (Some Crane) true = LowerToPlate
step_after_inquiry step _ _ = step

-- with a plate the crane begins on its way to the feed belt
abbrev pub first_step : Bool → CraneStep
first_step loaded = if loaded then TravelToFeed else RaiseToFetch

-- at the start the magnet is on if the crane has a plate
abbrev pub crane_start : ModelState → CraneProgress
crane_start s = record { step = first_step (is_full s OnCrane); magnet = is_full s OnCrane }

-- a reading of sensors that can be used: the switches don't clash, the raw value is in the calibration's range,
-- and the gripper's height is what the gauge gives there, near the line
pub record Reads (points : Scale) (gives : ℕ → ℤ → Type 0) (s : CraneSense) (r : CraneReading) : Type 0 where
  pub no_clash : ¬ CraneClashes s
  pub at_least : points.raw_lo ≤ s.gripper
  pub at_most : s.gripper ≤ points.raw_hi
  pub near : IsReading points s.gripper r.gripper
  pub given : gives s.gripper r.gripper
  pub switches : r.sense ≡ s
  pub high : IsTrue r.high ↔ ((travel_from +ℤ points.tol) ≤ℤ r.gripper)

-- the check of the sensors: first the switches, then the range of the raw value
abbrev pub Senses : Scale → (ℕ → ℤ → Type 0) → CraneSense → Result CraneReading SensorFault → Type 0
Senses points gives s (Err Clash) = CraneClashes s
Senses points gives s (Err Low) = ¬ CraneClashes s × (s.gripper < points.raw_lo)
Senses points gives s (Err High) = ¬ CraneClashes s × (points.raw_hi < s.gripper)
Senses points gives s (Ok r) = Reads points gives s r

-- the height that a step drives the gripper to
abbrev pub gripper_stop : CraneStep → Option Stop
gripper_stop RaiseToFetch = Some GRIPPER_TRAVEL
gripper_stop LowerToPlate = Some GRIPPER_DEPOSIT
gripper_stop RaiseWithPlate = Some GRIPPER_TRAVEL
gripper_stop LowerToFeed = Some GRIPPER_FEED
gripper_stop RaiseFromFeed = Some GRIPPER_TRAVEL
gripper_stop _ = None

-- the steps that travel, and their motor: off at the switch and while the gripper isn't high, else towards the switch
abbrev pub travels : CraneStep → Bool
travels TravelToDeposit = true
travels TravelToFeed = true
travels _ = false

abbrev pub travel_for : CraneStep → Bool → CraneSense → Motor
travel_for TravelToDeposit high s = if high then (if s.deposit then Off else Minus) else Off
travel_for TravelToFeed high s = if high then (if s.feed then Off else Plus) else Off
travel_for _ high s = Off

-- the commands to motors and magnet in a step that asks nothing; the magnet is already as the next step has it
pub record Acts (points : Scale) (p : CraneProgress) (r : CraneReading) (act : CraneAct) : Type 0 where
  pub travel : act.travel ≡ travel_for p.step r.high r.sense
  pub height : DrivesTo (gripper_stop p.step) points.tol r.gripper act.height
  pub magnet : act.magnet ≡ (row_of p).next.magnet

abbrev pub is_off : Motor → Bool
is_off Off = true
is_off _ = false

-- a step is done in the turn in which both motors are off; a step that travels also needs the gripper high
abbrev pub is_done : CraneStep → Bool → CraneAct → Bool
is_done step high act = (not (travels step) || high) && (is_off act.travel && is_off act.height)

abbrev pub after_act : CraneProgress → CraneReading → CraneAct → CraneProgress
after_act p r act = if is_done p.step r.high act then after_done p else p

-- the gripper's zone and its posture; none while it is raised before travel
abbrev pub gripper_zone : CraneStep → Option (Zone × Posture)
gripper_zone LowerToPlate = Some (Z5, OpenOut)
gripper_zone RaiseWithPlate = Some (Z5, OpenOut)
gripper_zone LowerToFeed = Some (Z6, OpenIn)
gripper_zone RaiseFromFeed = Some (Z6, OpenIn)
gripper_zone _ = None

-- while the height's motor is on, the crane holds the gripper's zone in that posture
abbrev pub CraneDemands : CraneStep → CraneAct → ModelState → List Event → Type 0
CraneDemands step act opening seen = act.height ≢ Off → HoldsIn Crane opening seen (gripper_zone step)

-- the program, by the points of the gripper's calibration and what its gauge may give at a raw value
abbrev pub crane_steps : Scale → (ℕ → ℤ → Type 0) → Steps CraneProgress CraneSense CraneReading CraneAct
crane_steps points gives =
    record {
      machine = Crane;
      start = crane_start;
      row = row_of;
      after_inquiry = λ p owner flag posture. record p { step = step_after_inquiry p.step owner flag };
      senses = Senses points gives;
      drives = λ p r act. Acts points p r act;
      after_drive = λ p r act. after_act p r act;
      rest = λ p. record { travel = Off; height = Off; magnet = p.magnet };
      motor_demands = λ p act opening seen. CraneDemands p.step act opening seen;
    }
