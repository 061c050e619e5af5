-- What is said of motors that programs run, line by line, and what it means that nothing is wrong.
use Rattle.std.specs.Prelude.{◌≡◌, ℕ, ◌≤◌, ◌^◌, true, false, List, [], ◌∷◌, codes, length, map, slice_get}
use Rattle.std.specs.Prelude.{Option, Some, None}
use Rattle.std.specs.Global.{Vec}
use Rattle.plan_types.specs.declared.call.Call.TheVariants.{Claim}
use Rattle.plan_types.specs.declared.posture.Posture.TheVariants.{Closed, Moving, OpenIn}
use Rattle.plan_rules.specs.declared.state.State.{State}
use Rattle.plan_motors.specs.MotorPlan.{motor_plan}
use Rattle.plan_motors.specs.OfPlan.{AreMotorsOf}
use Rattle.plan_drives.specs.Program.{IsDriven}
use Rattle.plan_drives.specs.declared.undriven.Lack.{Lack}
use Rattle.plan_drives.specs.declared.undriven.Lack.TheVariants.{NoSuchMotor, OtherMachine, NotHeld, NotInPosture}
use Rattle.plan_drives.specs.declared.undriven.Lack.TheVariants.{NotFilled}
use Rattle.plan_drives.specs.declared.undriven.Undriven.{Undriven}
use Rattle.plan_controller.specs.Steps.{line_of}
use Rattle.plan_controller.specs.declared.step.Step.{Step}
use Rattle.plan_controller.specs.declared.step.Step.TheVariants.{Do, Await, Run}
use Rattle.plan_controller.specs.Faults.{no_faults}
use Rattle.plan_text.specs.Names.{Text}
use Rattle.plan_document.specs.declared.resolving.ProgrammedPlan.{ProgrammedPlan}
use Rattle.plan_app.specs.Drives as drives
use Rattle.plan_app.specs.GoingExamples.{press}
use Rattle.plan_app.specs.Hazards.{TellsReport}

abbrev pub ram : List Text
ram = codes "gate" ∷ codes "ram" ∷ []

abbrev pub lacking : ℕ → Lack → Undriven
lacking line lack = record { line = line; motor = 1; lack = lack }

abbrev told : ℕ → ℕ → Lack → Text
told machine line lack = drives.undriven_line press ram machine (lacking line lack)

-- the machines are loader and press, the zone is interior, the places are hand and die
pub record DriveLines : Type 0 where
  pub posture : told 1 2 (NotInPosture 0 Moving (Some Closed))
      ≡ codes "press, line 3: ram needs interior moving; here it is closed\n"
  pub unknown : told 1 0 (NotInPosture 0 OpenIn None)
      ≡ codes "press, line 1: ram needs interior openin; here its posture isn't known\n"
  pub held : told 0 9 (NotHeld 0) ≡ codes "loader, line 10: ram needs to hold interior; here it may be another's\n"
  pub empty : told 1 2 (NotFilled 1 true (Some false)) ≡ codes "press, line 3: ram needs die full; here it is empty\n"
  pub maybe_empty : told 1 2 (NotFilled 1 true None) ≡ codes "press, line 3: ram needs die full; here it may be empty\n"
  pub full : told 1 2 (NotFilled 0 false (Some true)) ≡ codes "press, line 3: ram needs hand empty; here it is full\n"
  pub maybe_full : told 1 2 (NotFilled 0 false None)
      ≡ codes "press, line 3: ram needs hand empty; here it may be full\n"
  pub other : told 1 2 (OtherMachine 0) ≡ codes "press, line 3: ram is a motor of loader\n"
  pub stranger : told 1 2 NoSuchMotor ≡ codes "press, line 3: ram is no motor of the plan\n"
  -- the machine's own line, if it has one
  pub first : drives.drive_line press ram (Some (lacking 4 (NotHeld 0)) ∷ None ∷ []) 0
      ≡ codes "loader, line 5: ram needs to hold interior; here it may be another's\n"
  pub second : drives.drive_line press ram (Some (lacking 4 (NotHeld 0)) ∷ None ∷ []) 1 ≡ []
  pub past : drives.drive_line press ram (None ∷ []) 1 ≡ []

-- which steps run motors
pub record RunsAreTold : Type 0 where
  pub runs : drives.is_run (Run 2 0) ≡ true
  pub last : drives.is_run (Run (2 ^ 63) 31) ≡ true
  pub waits : drives.is_run (Run 0 0) ≡ false
  pub awaits : drives.is_run (Await 1) ≡ false
  pub calls : drives.is_run (Do (Claim 1) no_faults) ≡ false

-- if a report says that nothing is wrong, each machine's program runs only what is permitted
abbrev pub RightDrivesArePermitted : Type 0
RightDrivesArePermitted =
    (most : ℕ) (plan : ProgrammedPlan) (start : Option State) (text : Text) → TellsReport most plan start true text
    → AreMotorsOf plan.named.plan plan.motors.motors.items plan.motors.hazards.items → length plan.steps.items ≤ 30
    → (m : ℕ) (program : Vec Step) → slice_get plan.steps.items m ≡ Some program
    → IsDriven (motor_plan plan.named.plan plan.motors.motors.items plan.motors.hazards.items) m
    (map line_of program.items)
