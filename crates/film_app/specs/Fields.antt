-- What lines say of a frame, as texts.
use Rattle.std.specs.Prelude.{ℕ, ℤ, false, List, [], ◌∷◌, ◌++◌, codes, Option, Some, None, Result, Ok}
use Rattle.std.specs.Prelude.{Err}
use Rattle.std.specs.Fmt.{digits, signed_decimal}
use Rattle.std.specs.List.{join_with_byte}
use Rattle.cell_rules.specs.Types.{answer_text, flag_word, call_text, Machine, Feed, Table, Robot, Press, Deposit}
use Rattle.cell_rules.specs.Types.{Crane, Watch, Reply, Settled, Busy}
use Rattle.cell_devices.specs.declared.motor.Motor.{Motor}
use Rattle.cell_devices.specs.declared.motor.Motor.TheVariants.{Off, Plus, Minus}
use Rattle.cell_rules.specs.Names.{ModelState}
use Rattle.cell_rules.specs.declared.heard.LineFault.{LineFault}
use Rattle.cell_rules.specs.declared.heard.LineFault.TheVariants.{Memory}
use Rattle.cell_word.specs.Layout.{packed}
use Rattle.cell_notes.specs.Names.{TurnCall, at_machine}
use Rattle.cell_parts.specs.declared.axis.Axis.{Axis}
use Rattle.cell_parts.specs.declared.belt.Belt.{Belt}
use Rattle.cell_parts.specs.declared.plant.CranePlant.{CranePlant}
use Rattle.cell_parts.specs.declared.plant.PlantState.{PlantState}
use Rattle.cell_parts.specs.declared.plant.RobotPlant.{RobotPlant}
use Rattle.cell_parts.specs.declared.plant.TablePlant.{TablePlant}
use Rattle.cell_plant.specs.declared.frame.Frame.{Frame}
use Rattle.cell_plant.specs.declared.frame.MachineSteps.{MachineSteps}
use Rattle.cell_belts_crane.specs.FeedProgram as feed_program
use Rattle.cell_belts_crane.specs.DepositProgram as deposit_program
use Rattle.cell_belts_crane.specs.CraneProgram as crane_program
use Rattle.cell_robot.specs.RobotKeeps as robot_program
use Rattle.cell_table_press.specs.PressProgram as press_program
use Rattle.cell_table_press.specs.TableProgram as table_program
use Rattle.film_app.specs.StepWords.{stopped_text}

-- texts with a comma, or a semicolon, between any two
abbrev pub by_commas : List (List ℕ) → List ℕ
by_commas texts = join_with_byte 44 texts

abbrev pub by_semicolons : List (List ℕ) → List ℕ
by_semicolons texts = join_with_byte 59 texts

-- ---- a machine's part

-- which way a motor drives: nothing while it is off
abbrev pub motor_text : Motor → List ℕ
motor_text Off = []
motor_text Plus = codes "+"
motor_text Minus = codes "-"

abbrev pub axis_text : Axis → List ℕ
axis_text a = signed_decimal a.position ++ motor_text a.motor

-- where a plate is, if there is one
abbrev pub plate_text : Option ℤ → List ℕ
plate_text None = []
plate_text (Some position) = signed_decimal position

abbrev pub belt_text : Belt → List ℕ
belt_text b = by_commas (plate_text b.entry ∷ plate_text b.last ∷ flag_word b.runs ∷ [])

abbrev pub table_text : TablePlant → List ℕ
table_text t = by_commas (axis_text t.lift ∷ axis_text t.turn ∷ [])

abbrev pub robot_text : RobotPlant → List ℕ
robot_text r =
    by_commas (axis_text r.arm1 ∷ axis_text r.arm2 ∷ axis_text r.rotation ∷ flag_word r.magnet1 ∷ flag_word r.magnet2
    ∷ [])

abbrev pub crane_text : CranePlant → List ℕ
crane_text c = by_commas (axis_text c.travel ∷ axis_text c.gripper ∷ flag_word c.magnet ∷ [])

-- the watch has no part
abbrev pub part_text : Machine → PlantState → List ℕ
part_text Feed p = belt_text p.feed
part_text Table p = table_text p.table
part_text Robot p = robot_text p.robot
part_text Press p = axis_text p.press
part_text Deposit p = belt_text p.deposit
part_text Crane p = crane_text p.crane
part_text Watch p = []

-- ---- its step, and what has stopped it

-- the watch has no step
abbrev pub step_word : Machine → MachineSteps → List ℕ
step_word Feed s = feed_program.word_at s.feed
step_word Table s = table_program.word_at s.table
step_word Robot s = robot_program.word_at s.robot
step_word Press s = press_program.word_at s.press
step_word Deposit s = deposit_program.word_at s.deposit
step_word Crane s = crane_program.word_at s.crane
step_word Watch s = []

abbrev pub step_text : Machine → Frame → List ℕ
step_text m f = step_word m f.steps ++ stopped_text (at_machine f.status m)

-- ---- the interlock

-- its word in hexadecimal
abbrev pub word_text : ModelState → List ℕ
word_text s = digits 16 false (packed s)

-- ---- what was asked and what came back: nothing if nothing was asked

abbrev pub asked_text : TurnCall → List ℕ
asked_text None = []
asked_text (Some (call, reply)) = call_text call

abbrev pub reply_text : Result Reply LineFault → List ℕ
reply_text (Ok (Settled answer stamp)) = answer_text answer
reply_text (Ok (Busy lost stamp)) = codes "busy"
reply_text (Err Memory) = codes "memory"

abbrev pub answered_text : TurnCall → List ℕ
answered_text None = []
answered_text (Some (call, reply)) = reply_text reply
