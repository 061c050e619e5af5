-- Examples of each row of the press's program, with each state of its notes.
use Rattle.std.specs.Prelude.{◌≡◌, ◌≢◌, Bool, true, false, List, [], ◌∷◌, Ok, Err}
use Rattle.cell_rules.specs.Types.{Press, Z3, Travelling, Middle, Low, Top, Claim, Give, Take, Release, SetPose}
use Rattle.cell_rules.specs.Types.{Advance, Event, Moving}
use Rattle.cell_sensors.specs.declared.sense.PressSense.{PressSense}
use Rattle.cell_sensors.specs.declared.sense.SensorFault.TheVariants.{Clash}
use Rattle.cell_devices.specs.declared.motor.Direction.{Direction}
use Rattle.cell_devices.specs.declared.motor.Motor.{Motor}
use Rattle.cell_devices.specs.declared.motor.Motor.TheVariants.{Off, Plus, Minus}
use Rattle.cell_devices.specs.declared.act.PressAct.{PressAct}
use Rattle.cell_devices.specs.declared.motor.Direction.TheVariants.{Plus as Upward, Minus as Downward}
use Rattle.cell_rules.specs.Names.{ModelState, Holds, posture_by_events}
use Rattle.cell_control.specs.Rows.{AskRow, DriveRow, CheckRow, UntilFree, UntilOwner, UntilRoom, NoOtherAnswers}
use Rattle.cell_table_press.specs.declared.press.PressStep.{PressStep}
use Rattle.cell_table_press.specs.declared.press.PressStep.TheVariants.{ClaimFirst, LeaveForMiddle, MoveToMiddle}
use Rattle.cell_table_press.specs.declared.press.PressStep.TheVariants.{PoseMiddle, ReleaseInterior, TakePlate}
use Rattle.cell_table_press.specs.declared.press.PressStep.TheVariants.{LeaveForTop, MoveToTop, PoseTop, Forge}
use Rattle.cell_table_press.specs.declared.press.PressStep.TheVariants.{LeaveForBottom, MoveToBottom, PoseLow, GivePlate}
use Rattle.cell_table_press.specs.declared.press.PressStep.TheVariants.{ClaimBack}
use Rattle.cell_table_press.specs.declared.press.PressProgress.{PressProgress}
use Rattle.cell_table_press.specs.PressProgram.{press_steps}

abbrev pub at : PressStep → Bool → Bool → Direction → PressProgress
at step loaded forged direction = record { step = step; loaded = loaded; forged = forged; direction = direction }

-- the command to the motor, and the switches
abbrev pub act_of : Motor → PressAct
act_of motor = record { press = motor }

abbrev pub switches : Bool → Bool → Bool → PressSense
switches bottom middle top = record { bottom = bottom; middle = middle; top = top }

abbrev pub at_bottom : PressSense
at_bottom = switches true false false

abbrev pub at_middle : PressSense
at_middle = switches false true false

abbrev pub at_top : PressSense
at_top = switches false false true

abbrev pub between : PressSense
between = switches false false false

-- the start of the program, by whether an unforged and a forged plate are in the press
abbrev pub begins_with : Bool → Bool → PressProgress
begins_with false false = at ClaimFirst false false Downward
begins_with true false = at ClaimFirst true false Downward
begins_with false true = at ClaimFirst false true Downward
begins_with true true = at ClaimFirst true true Downward

-- the start depends on the full places and on nothing else
pub record PressStarts : Type 0 where
  pub whose : press_steps.machine ≡ Press
  pub by_places : (s : ModelState) → press_steps.start s ≡ begins_with s.full.press_in s.full.press_out

pub record PressAsks (loaded forged : Bool) (d : Direction) : Type 0 where
  pub claims : AskRow press_steps (at ClaimFirst false false d) (Claim Z3) [] (at LeaveForMiddle false false d)
  pub claims_loaded : AskRow press_steps (at ClaimFirst true false d) (Claim Z3) [] (at LeaveForTop true false d)
  pub claims_forged : AskRow press_steps (at ClaimFirst loaded true d) (Claim Z3) [] (at LeaveForBottom loaded true d)
  pub leaves_for_middle : AskRow press_steps (at LeaveForMiddle loaded forged d) (SetPose Travelling) []
      (at MoveToMiddle loaded forged d)
  pub poses_middle : AskRow press_steps (at PoseMiddle loaded forged d) (SetPose Middle) []
      (at ReleaseInterior loaded forged d)
  pub releases : AskRow press_steps (at ReleaseInterior loaded forged d) (Release Z3) [] (at TakePlate loaded forged d)
  pub takes : AskRow press_steps (at TakePlate loaded forged d) (Take Z3) (UntilOwner ∷ [])
      (at LeaveForTop true forged d)
  pub leaves_for_top : AskRow press_steps (at LeaveForTop loaded forged d) (SetPose Travelling) []
      (at MoveToTop loaded forged d)
  pub poses_top : AskRow press_steps (at PoseTop loaded forged d) (SetPose Top) [] (at Forge loaded forged d)
  pub forges : AskRow press_steps (at Forge loaded forged d) Advance [] (at LeaveForBottom false true d)
  pub leaves_for_bottom : AskRow press_steps (at LeaveForBottom loaded forged d) (SetPose Travelling) []
      (at MoveToBottom loaded forged d)
  pub poses_low : AskRow press_steps (at PoseLow loaded forged d) (SetPose Low) [] (at GivePlate loaded forged d)
  pub gives : AskRow press_steps (at GivePlate loaded forged d) (Give Z3) (UntilRoom ∷ []) (at ClaimBack loaded false d)
  pub claims_back : AskRow press_steps (at ClaimBack loaded forged d) (Claim Z3) (UntilFree ∷ [])
      (at LeaveForMiddle loaded forged d)

pub record PressDrives (loaded forged : Bool) (d : Direction) : Type 0 where
  pub to_middle_at_bottom : DriveRow press_steps (at MoveToMiddle loaded forged d) at_bottom (act_of Plus)
      (at MoveToMiddle loaded forged Upward)
  pub to_middle_at_top : DriveRow press_steps (at MoveToMiddle loaded forged d) at_top (act_of Minus)
      (at MoveToMiddle loaded forged Downward)
  pub to_middle_on_its_way_up : DriveRow press_steps (at MoveToMiddle loaded forged Upward) between (act_of Plus)
      (at MoveToMiddle loaded forged Upward)
  pub to_middle_on_its_way_down : DriveRow press_steps (at MoveToMiddle loaded forged Downward) between (act_of Minus)
      (at MoveToMiddle loaded forged Downward)
  pub to_middle_there : DriveRow press_steps (at MoveToMiddle loaded forged d) at_middle (act_of Off)
      (at PoseMiddle loaded forged d)
  pub to_top_at_bottom : DriveRow press_steps (at MoveToTop loaded forged d) at_bottom (act_of Plus)
      (at MoveToTop loaded forged Upward)
  pub to_top_at_middle : DriveRow press_steps (at MoveToTop loaded forged d) at_middle (act_of Plus)
      (at MoveToTop loaded forged Upward)
  pub to_top_on_its_way : DriveRow press_steps (at MoveToTop loaded forged d) between (act_of Plus)
      (at MoveToTop loaded forged Upward)
  pub to_top_there : DriveRow press_steps (at MoveToTop loaded forged d) at_top (act_of Off)
      (at PoseTop loaded forged d)
  pub to_bottom_at_top : DriveRow press_steps (at MoveToBottom loaded forged d) at_top (act_of Minus)
      (at MoveToBottom loaded forged Downward)
  pub to_bottom_at_middle : DriveRow press_steps (at MoveToBottom loaded forged d) at_middle (act_of Minus)
      (at MoveToBottom loaded forged Downward)
  pub to_bottom_on_its_way : DriveRow press_steps (at MoveToBottom loaded forged d) between (act_of Minus)
      (at MoveToBottom loaded forged Downward)
  pub to_bottom_there : DriveRow press_steps (at MoveToBottom loaded forged d) at_bottom (act_of Off)
      (at PoseLow loaded forged d)

pub record PressChecks : Type 0 where
  pub bottom : CheckRow press_steps at_bottom (Ok at_bottom)
  pub middle : CheckRow press_steps at_middle (Ok at_middle)
  pub top : CheckRow press_steps at_top (Ok at_top)
  pub none : CheckRow press_steps between (Ok between)
  pub bottom_and_middle : CheckRow press_steps (switches true true false) (Err Clash)
  pub bottom_and_top : CheckRow press_steps (switches true false true) (Err Clash)
  pub middle_and_top : CheckRow press_steps (switches false true true) (Err Clash)
  pub all_three : CheckRow press_steps (switches true true true) (Err Clash)

-- all rows; in a step that asks, the motor is off
pub record PressRowsAreMet : Type 0 where
  pub starts : PressStarts
  pub asks : (loaded forged : Bool) (d : Direction) → PressAsks loaded forged d
  pub drives : (loaded forged : Bool) (d : Direction) → PressDrives loaded forged d
  pub checks : PressChecks
  pub no_other_answers : NoOtherAnswers press_steps
  pub rests : (p : PressProgress) → press_steps.rest p ≡ act_of Off
  pub demands : (p : PressProgress) (motor : Motor) (opening : ModelState) (seen : List Event) → motor ≢ Off
      → press_steps.motor_demands p (act_of motor) opening seen
      → Holds opening seen Press Z3 × (posture_by_events opening seen Z3 ≡ Moving)
