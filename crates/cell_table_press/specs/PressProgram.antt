-- The press's program, row by row.
use Rattle.std.specs.Prelude.{◌≡◌, ◌≢◌, ℕ, Bool, true, false, not, ◌&&◌, ◌||◌, if◌then◌else◌, List, [], ◌∷◌}
use Rattle.std.specs.Prelude.{Result, Ok, Err, codes}
use Rattle.cell_rules.specs.Types.{Press, Z3, PressIn, PressOut, Pose, Travelling, Middle, Low, Top, Call, Claim}
use Rattle.cell_rules.specs.Types.{Give, Take, Release, SetPose, Advance, Event, Zone, Closed, OpenIn, OpenOut, Moving}
use Rattle.cell_sensors.specs.declared.sense.PressSense.{PressSense}
use Rattle.cell_sensors.specs.declared.sense.SensorFault.{SensorFault}
use Rattle.cell_sensors.specs.declared.sense.SensorFault.TheVariants.{Clash}
use Rattle.cell_devices.specs.Names.{motor_of}
use Rattle.cell_devices.specs.declared.motor.Direction.{Direction}
use Rattle.cell_devices.specs.declared.motor.Motor.{Motor}
use Rattle.cell_devices.specs.declared.motor.Motor.TheVariants.{Off, Plus, Minus}
use Rattle.cell_devices.specs.declared.act.PressAct.{PressAct}
use Rattle.cell_devices.specs.declared.motor.Direction.TheVariants.{Minus as Downward}
use Rattle.cell_devices.specs.Motors.{latest}
use Rattle.cell_rules.specs.Names.{ModelState, is_full, Holds, PressMoves, same_flag}
use Rattle.cell_control.specs.Names.{row_that_asks, row_that_drives, with_waits, Steps}
use Rattle.cell_control.specs.Keeping.{posed, unposed, are_kept}
use Rattle.cell_control.specs.declared.row.Row.{Row}
use Rattle.cell_control.specs.declared.row.Waits.TheVariants.{UntilOwner, UntilRoom}
use Rattle.cell_control.specs.declared.row.Waits.TheVariants.{UntilFree}
use Rattle.cell_control.specs.declared.share.Share.TheVariants.{Clear, Lent, Unclaimed}
use Rattle.cell_control.specs.declared.share.ZoneShare.{ZoneShare}
use Rattle.cell_table_press.specs.declared.press.PressPlates.{PressPlates}
use Rattle.cell_table_press.specs.declared.press.PressPlates.TheVariants.{OneAtMost, Empty, Unforged, Forged}
use Rattle.cell_table_press.specs.declared.press.PressShare.{PressShare}
use Rattle.cell_table_press.specs.declared.press.PressStep.{PressStep}
use Rattle.cell_table_press.specs.declared.press.PressStep.TheVariants.{ClaimFirst, LeaveForMiddle, MoveToMiddle}
use Rattle.cell_table_press.specs.declared.press.PressStep.TheVariants.{PoseMiddle, ReleaseInterior, TakePlate}
use Rattle.cell_table_press.specs.declared.press.PressStep.TheVariants.{LeaveForTop, MoveToTop, PoseTop, Forge}
use Rattle.cell_table_press.specs.declared.press.PressStep.TheVariants.{LeaveForBottom, MoveToBottom, PoseLow, GivePlate}
use Rattle.cell_table_press.specs.declared.press.PressStep.TheVariants.{ClaimBack}
use Rattle.cell_table_press.specs.declared.press.PressProgress.{PressProgress}

-- the row of a step that asks, of one that sets a pose, and of one that drives, by the next step
abbrev pub asks : PressProgress → Call → PressStep → Row PressProgress
asks p call next = row_that_asks call (record p { step = next })

abbrev pub poses : PressProgress → Pose → PressStep → Row PressProgress
poses p pose next = asks p (SetPose pose) next

abbrev pub drives : PressProgress → PressStep → Row PressProgress
drives p next = row_that_drives (record p { step = next })

-- with other notes: whether the press has an unforged and a forged plate
abbrev pub with_plates : PressProgress → Bool → Bool → PressProgress
with_plates p loaded forged = record p { loaded = loaded; forged = forged }

-- the step after the first claim, by the plates in the press
abbrev pub by_plates : PressProgress → PressStep
by_plates p = if p.forged then LeaveForBottom else (if p.loaded then LeaveForTop else LeaveForMiddle)

-- the row of each step: what it asks, what it waits for, and the next step with its notes
abbrev pub row_at : PressStep → PressProgress → Row PressProgress
row_at ClaimFirst p = asks p (Claim Z3) (by_plates p)
row_at LeaveForMiddle p = poses p Travelling MoveToMiddle
row_at MoveToMiddle p = drives p PoseMiddle
row_at PoseMiddle p = poses p Middle ReleaseInterior
row_at ReleaseInterior p = asks p (Release Z3) TakePlate
row_at TakePlate p = with_waits (asks (with_plates p true p.forged) (Take Z3) LeaveForTop) UntilOwner
row_at LeaveForTop p = poses p Travelling MoveToTop
row_at MoveToTop p = drives p PoseTop
row_at PoseTop p = poses p Top Forge
row_at Forge p = asks (with_plates p false true) Advance LeaveForBottom
row_at LeaveForBottom p = poses p Travelling MoveToBottom
row_at MoveToBottom p = drives p PoseLow
row_at PoseLow p = poses p Low GivePlate
row_at GivePlate p = with_waits (asks (with_plates p p.loaded false) (Give Z3) ClaimBack) UntilRoom
row_at ClaimBack p = with_waits (asks p (Claim Z3) LeaveForMiddle) UntilFree

abbrev pub row_of : PressProgress → Row PressProgress
row_of p = row_at p.step p

-- what the press keeps at each step: of its interior, and its plates
abbrev pub keeps : ZoneShare → PressPlates → PressShare
keeps interior plates = record { interior = interior; plates = plates }

abbrev pub keeps_at : PressStep → PressShare
keeps_at ClaimFirst = keeps (posed Unclaimed Closed) OneAtMost
keeps_at LeaveForMiddle = keeps (unposed Clear) Empty
keeps_at MoveToMiddle = keeps (posed Clear Moving) Empty
keeps_at PoseMiddle = keeps (posed Clear Moving) Empty
keeps_at ReleaseInterior = keeps (posed Clear OpenIn) Empty
keeps_at TakePlate = keeps (posed Lent OpenIn) Empty
keeps_at LeaveForTop = keeps (unposed Clear) Unforged
keeps_at MoveToTop = keeps (posed Clear Moving) Unforged
keeps_at PoseTop = keeps (posed Clear Moving) Unforged
keeps_at Forge = keeps (posed Clear Closed) Unforged
keeps_at LeaveForBottom = keeps (unposed Clear) Forged
keeps_at MoveToBottom = keeps (posed Clear Moving) Forged
keeps_at PoseLow = keeps (posed Clear Moving) Forged
keeps_at GivePlate = keeps (posed Clear OpenOut) Forged
keeps_at ClaimBack = keeps (posed Lent OpenOut) Empty

-- the number of each step, and the steps in that order
abbrev pub number_at : PressStep → ℕ
number_at ClaimFirst = 0
number_at LeaveForMiddle = 1
number_at MoveToMiddle = 2
number_at PoseMiddle = 3
number_at ReleaseInterior = 4
number_at TakePlate = 5
number_at LeaveForTop = 6
number_at MoveToTop = 7
number_at PoseTop = 8
number_at Forge = 9
number_at LeaveForBottom = 10
number_at MoveToBottom = 11
number_at PoseLow = 12
number_at GivePlate = 13
number_at ClaimBack = 14

-- the word of a step, as films show it
abbrev pub word_at : PressStep → List ℕ
word_at ClaimFirst = codes "claim first"
word_at LeaveForMiddle = codes "leave for middle"
word_at MoveToMiddle = codes "move to middle"
word_at PoseMiddle = codes "pose middle"
word_at ReleaseInterior = codes "release interior"
word_at TakePlate = codes "take plate"
word_at LeaveForTop = codes "leave for top"
word_at MoveToTop = codes "move to top"
word_at PoseTop = codes "pose top"
word_at Forge = codes "forge"
word_at LeaveForBottom = codes "leave for bottom"
word_at MoveToBottom = codes "move to bottom"
word_at PoseLow = codes "pose low"
word_at GivePlate = codes "give plate"
word_at ClaimBack = codes "claim back"

abbrev pub steps : List PressStep
steps =
    ClaimFirst ∷ LeaveForMiddle ∷ MoveToMiddle ∷ PoseMiddle ∷ ReleaseInterior ∷ TakePlate ∷ LeaveForTop ∷
    MoveToTop ∷ PoseTop ∷ Forge ∷ LeaveForBottom ∷ MoveToBottom ∷ PoseLow ∷ GivePlate ∷ ClaimBack ∷ []

-- its zone, with its share; its plates, by its notes: never two
abbrev pub zones_at : PressStep → List (Zone × ZoneShare)
zones_at step = (Z3, (keeps_at step).interior) ∷ []

abbrev pub are_there : PressPlates → Bool → Bool → Bool
are_there OneAtMost unforged forged = not (unforged && forged)
are_there Empty unforged forged = not unforged && not forged
are_there Unforged unforged forged = unforged && not forged
are_there Forged unforged forged = not unforged && forged

-- its notes agree with its places
abbrev pub is_noted : PressProgress → ModelState → Bool
is_noted p s = same_flag (is_full s PressIn) p.loaded && same_flag (is_full s PressOut) p.forged

-- the step is in step with a state: the zone, the plates and the notes are as it keeps them
abbrev pub in_step : PressProgress → ModelState → Bool
in_step p s =
    are_kept (zones_at p.step) Press s && (are_there (keeps_at p.step).plates p.loaded p.forged && is_noted p s)

abbrev pub after_done : PressProgress → PressProgress
after_done p = (row_of p).next

-- at the start the press notes its places
abbrev pub press_start : ModelState → PressProgress
press_start s = record {
  step = ClaimFirst;
  loaded = is_full s PressIn;
  forged = is_full s PressOut;
  direction = Downward;
}

-- the drives by switch: off at the switch, else towards it; to the middle from no switch, in the last direction
abbrev pub to_middle : Direction → PressSense → Motor
to_middle last s = if s.middle then Off else (if s.bottom then Plus else (if s.top then Minus else motor_of last))

abbrev pub to_top : PressSense → Motor
to_top s = if s.top then Off else Plus

abbrev pub to_bottom : PressSense → Motor
to_bottom s = if s.bottom then Off else Minus

abbrev pub step_motor : PressStep → Direction → PressSense → Motor
step_motor MoveToMiddle last s = to_middle last s
step_motor MoveToTop last s = to_top s
step_motor MoveToBottom last s = to_bottom s
step_motor _ last s = Off

abbrev pub act_for : PressProgress → PressSense → PressAct
act_for p s = record { press = step_motor p.step p.direction s }

-- the drive is done in the turn in which its motor is off
abbrev pub after_motor : PressProgress → Motor → PressProgress
after_motor p Off = after_done p
after_motor p Plus = record p { direction = latest p.direction Plus }
after_motor p Minus = record p { direction = latest p.direction Minus }

-- two switches are on that exclude each other
abbrev pub clashes : PressSense → Bool
clashes s = (s.bottom && s.middle) || (s.bottom && s.top) || (s.middle && s.top)

abbrev pub checked : PressSense → Result PressSense SensorFault
checked s = if clashes s then Err Clash else Ok s

-- while its motor is on, the press holds its interior and is travelling
abbrev pub PressDemands : PressAct → ModelState → List Event → Type 0
PressDemands act opening seen = act.press ≢ Off → Holds opening seen Press Z3 × PressMoves opening seen

abbrev pub press_steps : Steps PressProgress PressSense PressSense PressAct
press_steps =
    record {
      machine = Press;
      start = press_start;
      row = row_of;
      after_inquiry = λ p owner flag posture. p;
      senses = λ s r. r ≡ checked s;
      drives = λ p s act. act ≡ act_for p s;
      after_drive = λ p r act. after_motor p act.press;
      rest = λ p. record { press = Off };
      motor_demands = λ p act opening seen. PressDemands act opening seen;
    }
