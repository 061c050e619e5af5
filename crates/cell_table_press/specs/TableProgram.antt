-- The table's program, row by row.
use Rattle.std.specs.Prelude.{◌≡◌, ◌≢◌, ◌⊎◌, ◌<◌, ◌≤◌, ℕ, ℤ, Bool, true, false, not, ◌&&◌, if◌then◌else◌, List, Option}
use Rattle.std.specs.Prelude.{Some, None, [], ◌∷◌, Result, Ok, Err, codes}
use Rattle.cell_types.specs.declared.machine.Machine.TheVariants.{Table as TableMachine}
use Rattle.cell_rules.specs.Types.{Z1, Z2, Pose, Turning, Loading, Unloading, Call, Claim, Give, Take, Release}
use Rattle.cell_rules.specs.Types.{SetPose, Event, Zone, Closed, OpenIn, OpenOut, Moving}
use Rattle.cell_types.specs.declared.place.Place.TheVariants.{Table as OnTable}
use Rattle.cell_sensors.specs.Names.{Scale, IsReading}
use Rattle.cell_sensors.specs.declared.sense.TableSense.{TableSense}
use Rattle.cell_sensors.specs.declared.sense.SensorFault.{SensorFault}
use Rattle.cell_sensors.specs.declared.sense.SensorFault.TheVariants.{Low, High, Clash}
use Rattle.cell_sensors.specs.Sensors.{TableClashes}
use Rattle.cell_devices.specs.Names.{DrivesTo}
use Rattle.cell_devices.specs.declared.motor.Motor.{Motor}
use Rattle.cell_devices.specs.declared.stops.TheConstants.{TURN_LOADING, TURN_UNLOADING}
use Rattle.cell_devices.specs.declared.motor.Motor.TheVariants.{Off, Plus, Minus}
use Rattle.cell_devices.specs.declared.stops.Stop.{Stop}
use Rattle.cell_devices.specs.declared.act.TableAct.{TableAct}
use Rattle.cell_rules.specs.Names.{ModelState, is_full, Holds, Moves, same_flag}
use Rattle.cell_control.specs.Names.{row_that_asks, row_that_drives, with_waits, Steps}
use Rattle.cell_control.specs.Keeping.{posed, unposed, are_kept}
use Rattle.cell_control.specs.declared.row.Row.{Row}
use Rattle.cell_control.specs.declared.row.Waits.TheVariants.{UntilOwner, UntilRoom}
use Rattle.cell_control.specs.declared.row.Waits.TheVariants.{UntilFree}
use Rattle.cell_control.specs.declared.share.Share.TheVariants.{Clear, Lent, Unclaimed}
use Rattle.cell_control.specs.declared.share.ZoneShare.{ZoneShare}
use Rattle.cell_table_press.specs.declared.table.TablePlate.{TablePlate}
use Rattle.cell_table_press.specs.declared.table.TablePlate.TheVariants.{Any, Empty, Full}
use Rattle.cell_table_press.specs.declared.table.TableShare.{TableShare}
use Rattle.cell_table_press.specs.declared.table.TableStep.{TableStep}
use Rattle.cell_table_press.specs.declared.table.TableStep.TheVariants.{ClaimEntry, ClaimExit, LeaveForLoading}
use Rattle.cell_table_press.specs.declared.table.TableStep.TheVariants.{MoveToLoading, PoseLoading, ReleaseEntry}
use Rattle.cell_table_press.specs.declared.table.TableStep.TheVariants.{TakePlate, LeaveForUnloading, MoveToUnloading}
use Rattle.cell_table_press.specs.declared.table.TableStep.TheVariants.{PoseUnloading, GivePlate, ClaimBack}
use Rattle.cell_table_press.specs.declared.table.TableProgress.{TableProgress}
use Rattle.cell_table_press.specs.declared.table.TableReading.{TableReading}

-- the row of a step that asks, of one that sets a pose, and of one that drives, by the next step
abbrev pub asks : TableProgress → Call → TableStep → Row TableProgress
asks p call next = row_that_asks call (record p { step = next })

abbrev pub poses : TableProgress → Pose → TableStep → Row TableProgress
poses p pose next = asks p (SetPose pose) next

abbrev pub drives : TableProgress → TableStep → Row TableProgress
drives p next = row_that_drives (record p { step = next })

-- with another note: whether a plate is on the table
abbrev pub with_plate : TableProgress → Bool → TableProgress
with_plate p loaded = record p { loaded = loaded }

-- the step after the first claims, by the plate on the table
abbrev pub by_plate : TableProgress → TableStep
by_plate p = if p.loaded then LeaveForUnloading else LeaveForLoading

-- the row of each step: what it asks, what it waits for, and the next step with its note
abbrev pub row_at : TableStep → TableProgress → Row TableProgress
row_at ClaimEntry p = asks p (Claim Z1) ClaimExit
row_at ClaimExit p = asks p (Claim Z2) (by_plate p)
row_at LeaveForLoading p = poses p Turning MoveToLoading
row_at MoveToLoading p = drives p PoseLoading
row_at PoseLoading p = poses p Loading ReleaseEntry
row_at ReleaseEntry p = asks p (Release Z1) TakePlate
row_at TakePlate p = with_waits (asks (with_plate p true) (Take Z1) LeaveForUnloading) UntilOwner
row_at LeaveForUnloading p = poses p Turning MoveToUnloading
row_at MoveToUnloading p = drives p PoseUnloading
row_at PoseUnloading p = poses p Unloading GivePlate
row_at GivePlate p = with_waits (asks (with_plate p false) (Give Z2) ClaimBack) UntilRoom
row_at ClaimBack p = with_waits (asks p (Claim Z2) LeaveForLoading) UntilFree

abbrev pub row_of : TableProgress → Row TableProgress
row_of p = row_at p.step p

-- what the table keeps at each step: of the zone that it shares with the feed belt, of that with the robot, and its plate
abbrev pub keeps : ZoneShare → ZoneShare → TablePlate → TableShare
keeps entry exit plate = record { entry = entry; exit = exit; plate = plate }

abbrev pub keeps_at : TableStep → TableShare
keeps_at ClaimEntry = keeps (posed Unclaimed Closed) (posed Unclaimed Closed) Any
keeps_at ClaimExit = keeps (unposed Clear) (posed Unclaimed Closed) Any
keeps_at LeaveForLoading = keeps (unposed Clear) (unposed Clear) Empty
keeps_at MoveToLoading = keeps (posed Clear Moving) (posed Clear Moving) Empty
keeps_at PoseLoading = keeps (posed Clear Moving) (posed Clear Moving) Empty
keeps_at ReleaseEntry = keeps (posed Clear OpenIn) (posed Clear Closed) Empty
keeps_at TakePlate = keeps (posed Lent OpenIn) (posed Clear Closed) Empty
keeps_at LeaveForUnloading = keeps (unposed Clear) (unposed Clear) Full
keeps_at MoveToUnloading = keeps (posed Clear Moving) (posed Clear Moving) Full
keeps_at PoseUnloading = keeps (posed Clear Moving) (posed Clear Moving) Full
keeps_at GivePlate = keeps (posed Clear Closed) (posed Clear OpenOut) Full
keeps_at ClaimBack = keeps (posed Clear Closed) (posed Lent OpenOut) Empty

-- the number of each step, and the steps in that order
abbrev pub number_at : TableStep → ℕ
number_at ClaimEntry = 0
number_at ClaimExit = 1
number_at LeaveForLoading = 2
number_at MoveToLoading = 3
number_at PoseLoading = 4
number_at ReleaseEntry = 5
number_at TakePlate = 6
number_at LeaveForUnloading = 7
number_at MoveToUnloading = 8
number_at PoseUnloading = 9
number_at GivePlate = 10
number_at ClaimBack = 11

-- the word of a step, as films show it
abbrev pub word_at : TableStep → List ℕ
word_at ClaimEntry = codes "claim entry"
word_at ClaimExit = codes "claim exit"
word_at LeaveForLoading = codes "leave for loading"
word_at MoveToLoading = codes "move to loading"
word_at PoseLoading = codes "pose loading"
word_at ReleaseEntry = codes "release entry"
word_at TakePlate = codes "take plate"
word_at LeaveForUnloading = codes "leave for unloading"
word_at MoveToUnloading = codes "move to unloading"
word_at PoseUnloading = codes "pose unloading"
word_at GivePlate = codes "give plate"
word_at ClaimBack = codes "claim back"

abbrev pub steps : List TableStep
steps =
    ClaimEntry ∷ ClaimExit ∷ LeaveForLoading ∷ MoveToLoading ∷ PoseLoading ∷ ReleaseEntry ∷ TakePlate ∷
    LeaveForUnloading ∷ MoveToUnloading ∷ PoseUnloading ∷ GivePlate ∷ ClaimBack ∷ []

-- its zones, with its shares; its plate, by its note
abbrev pub zones_at : TableStep → List (Zone × ZoneShare)
zones_at step = (Z1, (keeps_at step).entry) ∷ (Z2, (keeps_at step).exit) ∷ []

abbrev pub is_there : TablePlate → Bool → Bool
is_there Any loaded = true
is_there Empty loaded = not loaded
is_there Full loaded = loaded

-- the step is in step with a state: the zones, the plate and the note are as it keeps them
abbrev pub in_step : TableProgress → ModelState → Bool
in_step p s =
    are_kept (zones_at p.step) TableMachine s
    && (is_there (keeps_at p.step).plate p.loaded && same_flag (is_full s OnTable) p.loaded)

abbrev pub after_done : TableProgress → TableProgress
after_done p = (row_of p).next

-- at the start the table notes its place
abbrev pub table_start : ModelState → TableProgress
table_start s = record { step = ClaimEntry; loaded = is_full s OnTable }

-- a reading of sensors that can be used: the switches don't clash, the raw value is in the calibration's range,
-- and the rotation is what the gauge gives there, near the line
pub record Reads (points : Scale) (gives : ℕ → ℤ → Type 0) (s : TableSense) (r : TableReading) : Type 0 where
  pub no_clash : ¬ TableClashes s
  pub first : points.raw_lo ≤ s.turn
  pub last : s.turn ≤ points.raw_hi
  pub near : IsReading points s.turn r.turn
  pub given : gives s.turn r.turn
  pub switches : r.sense ≡ s

-- the check of the sensors: first the switches, then the range of the raw value
abbrev pub Senses : Scale → (ℕ → ℤ → Type 0) → TableSense → Result TableReading SensorFault → Type 0
Senses points gives s (Err Clash) = TableClashes s
Senses points gives s (Err Low) = ¬ TableClashes s × (s.turn < points.raw_lo)
Senses points gives s (Err High) = ¬ TableClashes s × (points.raw_hi < s.turn)
Senses points gives s (Ok r) = Reads points gives s r

-- the height's motor: off at the switch, else towards it
abbrev pub height_for : TableStep → TableSense → Motor
height_for MoveToLoading s = if s.bottom then Off else Minus
height_for MoveToUnloading s = if s.top then Off else Plus
height_for _ s = Off

-- the rotation that a step turns to
abbrev pub rotation_stop : TableStep → Option Stop
rotation_stop MoveToLoading = Some TURN_LOADING
rotation_stop MoveToUnloading = Some TURN_UNLOADING
rotation_stop _ = None

-- the commands to the two motors in a step that drives
pub record Acts (points : Scale) (step : TableStep) (r : TableReading) (act : TableAct) : Type 0 where
  pub height : act.height ≡ height_for step r.sense
  pub rotation : DrivesTo (rotation_stop step) points.tol r.turn act.rotation

abbrev pub is_off : Motor → Bool
is_off Off = true
is_off _ = false

-- the drives are done in the turn in which both motors are off
abbrev pub after_act : TableProgress → TableAct → TableProgress
after_act p act = if is_off act.height && is_off act.rotation then after_done p else p

-- while a motor of the table is on, the table holds both its zones and is turning
abbrev pub TableDemands : TableAct → ModelState → List Event → Type 0
TableDemands act opening seen =
    (act.height ≢ Off) ⊎ (act.rotation ≢ Off)
    → (Holds opening seen TableMachine Z1 × Holds opening seen TableMachine Z2)
    × (Moves opening seen Z1 × Moves opening seen Z2)

-- the program, by the points of the rotation's calibration and what its gauge may give at a raw value
abbrev pub table_steps : Scale → (ℕ → ℤ → Type 0) → Steps TableProgress TableSense TableReading TableAct
table_steps points gives =
    record {
      machine = TableMachine;
      start = table_start;
      row = row_of;
      after_inquiry = λ p owner flag posture. p;
      senses = Senses points gives;
      drives = λ p r act. Acts points p.step r act;
      after_drive = λ p r act. after_act p act;
      rest = λ p. record { height = Off; rotation = Off };
      motor_demands = λ p act opening seen. TableDemands act opening seen;
    }
