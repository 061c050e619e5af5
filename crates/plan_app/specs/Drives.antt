-- What `plan check` says of the motors that programs run.
use Rattle.std.specs.Prelude.{◌≡◌, ℕ, ◌+◌, ◌<◌, ◌≤◌, Bool, false, not, nat_eq, List, [], ◌++◌, codes, flat_map}
use Rattle.std.specs.Prelude.{length, map, slice_get, is_none, is_some, Option, Some, None, if◌then◌else◌}
use Rattle.std.specs.Fmt.{decimal}
use Rattle.std.specs.List.{AllZip, enumerate_from, list_all, list_any, range_with_len}
use Rattle.std.specs.Global.{Vec}
use Rattle.plan_types.specs.declared.posture.Posture.{Posture}
use Rattle.plan_types.specs.Table.{PlanTable}
use Rattle.plan_motors.specs.declared.motor.Hazard.{Hazard}
use Rattle.plan_motors.specs.declared.motor.Motor.{Motor}
use Rattle.plan_motors.specs.MotorPlan.{MotorTables, motor_plan}
use Rattle.plan_motors.specs.OfPlan.{AreMotorsOf}
use Rattle.plan_drives.specs.Lacking.{IsUndriven}
use Rattle.plan_drives.specs.Program.{IsDriven, IsBackedAt}
use Rattle.plan_drives.specs.declared.undriven.Lack.{Lack}
use Rattle.plan_drives.specs.declared.undriven.Lack.TheVariants.{NoSuchMotor, OtherMachine, NotHeld, NotInPosture}
use Rattle.plan_drives.specs.declared.undriven.Lack.TheVariants.{NotFilled}
use Rattle.plan_drives.specs.declared.undriven.Undriven.{Undriven}
use Rattle.plan_controller.specs.Steps.{line_of}
use Rattle.plan_controller.specs.declared.step.Step.{Step}
use Rattle.plan_controller.specs.declared.step.Step.TheVariants.{Do, Await, Run}
use Rattle.plan_text.specs.Answers.{posture_word}
use Rattle.plan_text.specs.Named.{Named}
use Rattle.plan_text.specs.Names.{Text, name_in}
use Rattle.plan_document.specs.declared.resolving.ProgrammedPlan.{ProgrammedPlan}
use Rattle.plan_header.specs.Words.{machine_name, zone_name}
use Rattle.plan_app.specs.declared.drives.TheConstants.{ALL_DRIVEN}

-- ---- what is found

-- a machine's program runs only what is permitted, or this is its first line that doesn't
abbrev pub IsDrive : MotorTables → ℕ → List Step → Option Undriven → Type 0
IsDrive t m steps None = IsDriven t m (map line_of steps)
IsDrive t m steps (Some u) =
    IsUndriven t m (map line_of steps) u × ((k : ℕ) → k < u.line → IsBackedAt t m (map line_of steps) k)

abbrev pub IsDriveOf : MotorTables → ℕ × Vec Step → Option Undriven → Type 0
IsDriveOf t (m, program) found = IsDrive t m program.items found

-- motors with their plan, if they fit it
abbrev pub IsCopy : PlanTable → List Motor → List Hazard → Option MotorTables → Type 0
IsCopy t motors hazards None = ¬ AreMotorsOf t motors hazards
IsCopy t motors hazards (Some copy) = copy ≡ motor_plan t motors hazards

-- of each machine, by its number
abbrev pub AreDrives : ProgrammedPlan → List (Option Undriven) → Type 0
AreDrives plan drives =
    let motors = plan.motors.motors.items in
    let hazards = plan.motors.hazards.items in
    AreMotorsOf plan.named.plan motors hazards → length plan.steps.items ≤ 30
    → AllZip (IsDriveOf (motor_plan plan.named.plan motors hazards)) (enumerate_from 0 plan.steps.items) drives

-- ---- what is said

abbrev pub is_run : Step → Bool
is_run (Do call faults) = false
is_run (Await z) = false
is_run (Run motors until) = not (nat_eq motors 0)

abbrev pub runs_motors : Vec Step → Bool
runs_motors program = list_any is_run program.items

abbrev pub posture_needed : Text → Posture → Option Posture → Text
posture_needed zone needed None =
    codes "needs " ++ (zone ++ (codes " " ++ (posture_word needed ++ codes "; here its posture isn't known\n")))
posture_needed zone needed (Some known) =
    codes "needs " ++ (zone ++ (codes " " ++ (posture_word needed ++ (codes "; here it is " ++ (posture_word known
    ++ codes "\n")))))

abbrev pub filling : Bool → Text
filling full = if full then codes "full" else codes "empty"

abbrev pub here : Bool → Text
here known = if known then codes "is" else codes "may be"

abbrev pub filling_needed : Text → Bool → Bool → Text
filling_needed place needed known =
    codes "needs " ++ (place ++ (codes " " ++ (filling needed ++ (codes "; here it " ++ (here known
    ++ (codes " " ++ (filling (not needed) ++ codes "\n")))))))

abbrev pub lack_text : Named → Lack → Text
lack_text n NoSuchMotor = codes "is no motor of the plan\n"
lack_text n (OtherMachine m) = codes "is a motor of " ++ (machine_name n m ++ codes "\n")
lack_text n (NotHeld z) = codes "needs to hold " ++ (zone_name n z ++ codes "; here it may be another's\n")
lack_text n (NotInPosture z needed known) = posture_needed (zone_name n z) needed known
lack_text n (NotFilled p needed known) = filling_needed (name_in n.places p) needed (is_some known)

-- `press, line 3: ram needs interior moving; here it is closed`
abbrev pub undriven_line : Named → List Text → ℕ → Undriven → Text
undriven_line n motors m u =
    (machine_name n m ++ (codes ", line " ++ (decimal (u.line + 1) ++ (codes ": " ++ (name_in motors u.motor
    ++ codes " "))))) ++ lack_text n u.lack

abbrev pub line_if : Named → List Text → ℕ → Option (Option Undriven) → Text
line_if n motors m None = []
line_if n motors m (Some None) = []
line_if n motors m (Some (Some u)) = undriven_line n motors m u

abbrev pub drive_line : Named → List Text → List (Option Undriven) → ℕ → Text
drive_line n motors drives m = line_if n motors m (slice_get drives m)

abbrev pub drive_lines : Named → List Text → List (Option Undriven) → Text
drive_lines n motors drives = flat_map (drive_line n motors drives) (range_with_len 0 (length n.machines))

-- of programs that run no motors nothing
unfoldable pub drives_text : Named → List Text → List (Vec Step) → List (Option Undriven) → Text
drives_text n motors programs drives =
    if not (list_any runs_motors programs) then []
    else if list_all is_none drives then ALL_DRIVEN.now
    else drive_lines n motors drives
