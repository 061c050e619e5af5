-- Examples of each row of the table's program, with each state of its note.
use Rattle.std.specs.Prelude.{◌≡◌, ◌≢◌, ◌⊎◌, ℕ, ℤ, pos, Bool, true, false, List, [], ◌∷◌, Ok, Err}
use Rattle.cell_types.specs.declared.machine.Machine.TheVariants.{Table as TableMachine}
use Rattle.cell_rules.specs.Types.{Z1, Z2, Turning, Loading, Unloading, Claim, Give, Take, Release, SetPose, Event}
use Rattle.cell_rules.specs.Types.{Moving}
use Rattle.cell_sensors.specs.Names.{Scale, IsReading}
use Rattle.cell_sensors.specs.declared.sense.TableSense.{TableSense}
use Rattle.cell_sensors.specs.declared.sense.SensorFault.TheVariants.{Low, High, Clash}
use Rattle.cell_devices.specs.declared.motor.Motor.{Motor}
use Rattle.cell_devices.specs.declared.motor.Motor.TheVariants.{Off, Plus, Minus}
use Rattle.cell_devices.specs.declared.act.TableAct.{TableAct}
use Rattle.cell_rules.specs.Names.{ModelState, Holds, posture_by_events}
use Rattle.cell_control.specs.Names.{Steps, AskRow, DriveRow, UntilFree, NoOtherAnswers}
use Rattle.cell_control.specs.Rows.{UntilOwner, UntilRoom}
use Rattle.cell_table_press.specs.declared.table.TableStep.{TableStep}
use Rattle.cell_table_press.specs.declared.table.TableStep.TheVariants.{ClaimEntry, ClaimExit, LeaveForLoading}
use Rattle.cell_table_press.specs.declared.table.TableStep.TheVariants.{MoveToLoading, PoseLoading, ReleaseEntry}
use Rattle.cell_table_press.specs.declared.table.TableStep.TheVariants.{TakePlate, LeaveForUnloading, MoveToUnloading}
use Rattle.cell_table_press.specs.declared.table.TableStep.TheVariants.{PoseUnloading, GivePlate, ClaimBack}
use Rattle.cell_table_press.specs.declared.table.TableProgress.{TableProgress}
use Rattle.cell_table_press.specs.declared.table.TableReading.{TableReading}
use Rattle.cell_table_press.specs.TableProgram.{table_steps}

abbrev pub at : TableStep → Bool → TableProgress
at step loaded = record { step = step; loaded = loaded }

abbrev pub act_of : Motor → Motor → TableAct
act_of height rotation = record { height = height; rotation = rotation }

abbrev pub shown : Bool → Bool → ℕ → TableSense
shown bottom top turn = record { bottom = bottom; top = top; turn = turn }

-- what the sensors say, by the switches and the position of the rotation
abbrev pub reads : Bool → Bool → ℕ → TableReading
reads bottom top turn = record { sense = shown bottom top 0; turn = pos turn }

-- with a gauge that may give any position near the line
abbrev pub rows_by : Scale → Steps TableProgress TableSense TableReading TableAct
rows_by points = table_steps points (IsReading points)

-- the start of the program, by whether a plate is on the table
abbrev pub begins_with : Bool → TableProgress
begins_with false = at ClaimEntry false
begins_with true = at ClaimEntry true

-- the start depends on the full places and on nothing else
pub record TableStarts (points : Scale) : Type 0 where
  pub whose : (rows_by points).machine ≡ TableMachine
  pub by_places : (s : ModelState) → (rows_by points).start s ≡ begins_with s.full.table

pub record TableAsks (points : Scale) (loaded : Bool) : Type 0 where
  pub claims_entry : AskRow (rows_by points) (at ClaimEntry loaded) (Claim Z1) [] (at ClaimExit loaded)
  pub claims_exit : AskRow (rows_by points) (at ClaimExit false) (Claim Z2) [] (at LeaveForLoading false)
  pub claims_exit_loaded : AskRow (rows_by points) (at ClaimExit true) (Claim Z2) [] (at LeaveForUnloading true)
  pub leaves_for_loading : AskRow (rows_by points) (at LeaveForLoading loaded) (SetPose Turning) []
      (at MoveToLoading loaded)
  pub poses_loading : AskRow (rows_by points) (at PoseLoading loaded) (SetPose Loading) [] (at ReleaseEntry loaded)
  pub releases_entry : AskRow (rows_by points) (at ReleaseEntry loaded) (Release Z1) [] (at TakePlate loaded)
  pub takes : AskRow (rows_by points) (at TakePlate loaded) (Take Z1) (UntilOwner ∷ []) (at LeaveForUnloading true)
  pub leaves_for_unloading : AskRow (rows_by points) (at LeaveForUnloading loaded) (SetPose Turning) []
      (at MoveToUnloading loaded)
  pub poses_unloading : AskRow (rows_by points) (at PoseUnloading loaded) (SetPose Unloading) [] (at GivePlate loaded)
  pub gives : AskRow (rows_by points) (at GivePlate loaded) (Give Z2) (UntilRoom ∷ []) (at ClaimBack false)
  pub claims_back : AskRow (rows_by points) (at ClaimBack loaded) (Claim Z2) (UntilFree ∷ [])
      (at LeaveForLoading loaded)

-- raw values from 100 to 4100 and a tolerance of 5, so the rotation's motor is off within 15 of its target
abbrev pub scale : Scale
scale = record { raw_lo = 100; raw_hi = 4100; at_lo = pos 0; at_hi = pos 500; tol = pos 5 }

pub record TableDrives (loaded : Bool) : Type 0 where
  pub to_loading : DriveRow (rows_by scale) (at MoveToLoading loaded) (reads false false 16) (act_of Minus Minus)
      (at MoveToLoading loaded)
  pub to_loading_at_top : DriveRow (rows_by scale) (at MoveToLoading loaded) (reads false true 500) (act_of Minus Minus)
      (at MoveToLoading loaded)
  pub to_loading_turned : DriveRow (rows_by scale) (at MoveToLoading loaded) (reads false false 15) (act_of Minus Off)
      (at MoveToLoading loaded)
  pub to_loading_lowered : DriveRow (rows_by scale) (at MoveToLoading loaded) (reads true false 16) (act_of Off Minus)
      (at MoveToLoading loaded)
  pub to_loading_there : DriveRow (rows_by scale) (at MoveToLoading loaded) (reads true false 15) (act_of Off Off)
      (at PoseLoading loaded)
  pub to_unloading : DriveRow (rows_by scale) (at MoveToUnloading loaded) (reads false false 484) (act_of Plus Plus)
      (at MoveToUnloading loaded)
  pub to_unloading_at_bottom : DriveRow (rows_by scale) (at MoveToUnloading loaded) (reads true false 0)
      (act_of Plus Plus) (at MoveToUnloading loaded)
  pub to_unloading_turned : DriveRow (rows_by scale) (at MoveToUnloading loaded) (reads false false 485)
      (act_of Plus Off) (at MoveToUnloading loaded)
  pub to_unloading_lifted : DriveRow (rows_by scale) (at MoveToUnloading loaded) (reads false true 484)
      (act_of Off Plus) (at MoveToUnloading loaded)
  pub to_unloading_too_far : DriveRow (rows_by scale) (at MoveToUnloading loaded) (reads false true 516)
      (act_of Off Minus) (at MoveToUnloading loaded)
  pub to_unloading_there_first : DriveRow (rows_by scale) (at MoveToUnloading loaded) (reads false true 485)
      (act_of Off Off) (at PoseUnloading loaded)
  pub to_unloading_there_last : DriveRow (rows_by scale) (at MoveToUnloading loaded) (reads false true 515)
      (act_of Off Off) (at PoseUnloading loaded)

-- a gauge that gives 3 at every raw value; at 100 this is near the line
abbrev pub three : ℕ → ℤ → Type 0
three raw v = v ≡ pos 3

pub record TableChecks : Type 0 where
  pub clash : (rows_by scale).senses (shown true true 100) (Err Clash)
  pub clash_is_no_reading : (r : TableReading) → ¬ (rows_by scale).senses (shown true true 100) (Ok r)
  pub no_clash_at_bottom : ¬ (rows_by scale).senses (shown true false 100) (Err Clash)
  pub no_clash_at_top : ¬ (rows_by scale).senses (shown false true 100) (Err Clash)
  pub clash_before_raw_value : ¬ (rows_by scale).senses (shown true true 99) (Err Low)
  pub clash_before_high_value : ¬ (rows_by scale).senses (shown true true 4101) (Err High)
  pub too_low : (rows_by scale).senses (shown false false 99) (Err Low)
  pub too_low_is_no_reading : (r : TableReading) → ¬ (rows_by scale).senses (shown false false 99) (Ok r)
  pub not_too_low : ¬ (rows_by scale).senses (shown false false 100) (Err Low)
  pub too_high : (rows_by scale).senses (shown true false 4101) (Err High)
  pub too_high_is_no_reading : (r : TableReading) → ¬ (rows_by scale).senses (shown true false 4101) (Ok r)
  pub not_too_high : ¬ (rows_by scale).senses (shown true false 4100) (Err High)
  pub switches_as_shown : (s : TableSense) (r : TableReading) → (rows_by scale).senses s (Ok r) → r.sense ≡ s
  pub by_gauge : (table_steps scale three).senses (shown false true 100)
      (Ok (record { sense = shown false true 100; turn = pos 3 }))
  pub not_by_line : ¬ (table_steps scale three).senses (shown false true 100)
      (Ok (record { sense = shown false true 100; turn = pos 0 }))

-- the table holds both its zones, which move
pub record DemandsBoth (opening : ModelState) (seen : List Event) : Type 0 where
  pub holds_entry : Holds opening seen TableMachine Z1
  pub holds_exit : Holds opening seen TableMachine Z2
  pub entry_moves : posture_by_events opening seen Z1 ≡ Moving
  pub exit_moves : posture_by_events opening seen Z2 ≡ Moving

-- all rows; in a step that asks, both motors are off
pub record TableRowsAreMet : Type 0 where
  pub starts : (points : Scale) → TableStarts points
  pub asks : (points : Scale) (loaded : Bool) → TableAsks points loaded
  pub drives : (loaded : Bool) → TableDrives loaded
  pub checks : TableChecks
  pub no_other_answers : (points : Scale) → NoOtherAnswers (rows_by points)
  pub rests : (points : Scale) (p : TableProgress) → (rows_by points).rest p ≡ act_of Off Off
  pub demands : (points : Scale) (p : TableProgress) (height rotation : Motor) (opening : ModelState)
      (seen : List Event) → (height ≢ Off) ⊎ (rotation ≢ Off)
      → (rows_by points).motor_demands p (act_of height rotation) opening seen → DemandsBoth opening seen
