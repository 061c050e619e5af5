-- No byte of a line needs an escape.
use Rattle.std.proofs.Common.{◌≡◌, ℕ, ℤ, pos, negsuc, Bool, true, false, List, [], ◌∷◌, ◌++◌, codes, cond, suc, Option, Some, None, Result, Ok, Err, nat_lt, refl}
use Rattle.std.specs.Fmt.{decimal, signed_decimal}
use Rattle.std.specs.Str.{bytes_eq}
use Rattle.cell_rules.specs.Types.{answer_text, flag_word, owner_word, refusal_word, call_text, machine_word, pose_word, posture_word, zone_word, Answer, Refusal, Call, Machine, Pose, Posture, Reply, Settled, Busy, Zone}
use Rattle.cell_types.specs.declared.answer.Answer.TheVariants as answer
use Rattle.cell_types.specs.declared.answer.Refusal.TheVariants as refusal
use Rattle.cell_types.specs.declared.call.Call.TheVariants as call
use Rattle.cell_types.specs.declared.machine.Machine.TheVariants as machine
use Rattle.cell_types.specs.declared.pose.Pose.TheVariants as pose
use Rattle.cell_types.specs.declared.posture.Posture.TheVariants as posture
use Rattle.cell_types.specs.declared.zone.Zone.TheVariants as zone
use Rattle.cell_devices.specs.declared.motor.Motor.{Motor}
use Rattle.cell_devices.specs.declared.motor.Motor.TheVariants as motor
use Rattle.cell_belts_crane.specs.declared.feed.FeedStep.{FeedStep}
use Rattle.cell_belts_crane.specs.declared.deposit.DepositStep.{DepositStep}
use Rattle.cell_belts_crane.specs.declared.crane.CraneStep.{CraneStep}
use Rattle.cell_belts_crane.specs.declared.feed.FeedStep.TheVariants as feed
use Rattle.cell_belts_crane.specs.declared.deposit.DepositStep.TheVariants as deposit
use Rattle.cell_belts_crane.specs.declared.crane.CraneStep.TheVariants as crane
use Rattle.cell_robot.specs.declared.robot.RobotStep.{RobotStep}
use Rattle.cell_robot.specs.declared.robot.RobotStep.TheVariants as robot
use Rattle.cell_table_press.specs.declared.press.PressStep.{PressStep}
use Rattle.cell_table_press.specs.declared.table.TableStep.{TableStep}
use Rattle.cell_table_press.specs.declared.press.PressStep.TheVariants as press
use Rattle.cell_table_press.specs.declared.table.TableStep.TheVariants as table
use Rattle.cell_rules.specs.Names.{ModelState}
use Rattle.cell_rules.specs.declared.heard.LineFault.{LineFault}
use Rattle.cell_rules.specs.declared.heard.LineFault.TheVariants.{Memory}
use Rattle.cell_word.specs.Layout.{packed}
use Rattle.cell_notes.specs.Names.{TurnCall, at_machine}
use Rattle.cell_notes.specs.declared.schedule.Turn.{Turn}
use Rattle.cell_notes.specs.declared.status.Status.{Status}
use Rattle.cell_notes.specs.declared.status.Status.TheVariants as status
use Rattle.cell_parts.specs.declared.axis.Axis.{Axis}
use Rattle.cell_parts.specs.declared.belt.Belt.{Belt}
use Rattle.cell_parts.specs.declared.plant.PlantState.{PlantState}
use Rattle.cell_plant.specs.declared.frame.Frame.{Frame}
use Rattle.cell_plant.specs.declared.frame.MachineSteps.{MachineSteps}
use Rattle.cell_belts_crane.specs.FeedProgram as feed_program
use Rattle.cell_belts_crane.specs.DepositProgram as deposit_program
use Rattle.cell_belts_crane.specs.CraneProgram as crane_program
use Rattle.cell_robot.specs.RobotKeeps as robot_program
use Rattle.cell_table_press.specs.PressProgram as press_program
use Rattle.cell_table_press.specs.TableProgram as table_program
use Rattle.film_app.specs.StepWords.{stopped_text}
use Rattle.cell_config.specs.Letters.{letter_word}
use Rattle.film_app.specs.Fields as fields
use Rattle.film_app.specs.Lines.{Fields, LastCalls, changes_text, fields_before, fields_of, frame_line, if_new, is_same, line_by, lines_after, machine_text, nothing_said, said_after, start_line, turn_line}
use Rattle.film_app.specs.Pages.{cut_line, max_turns}
use Rattle.film_app.specs.Plain.{LinesNeedNoEscape, are_plain}
use Rattle.film_app.proofs.PlainLemmas.{both, decimal-plain, hex-plain}

-- ---- words

machine-plain : (x : Machine) → are_plain (machine_word x) ≡ true
machine-plain machine.Feed = refl
machine-plain machine.Table = refl
machine-plain machine.Robot = refl
machine-plain machine.Press = refl
machine-plain machine.Deposit = refl
machine-plain machine.Crane = refl
machine-plain machine.Watch = refl

zone-plain : (x : Zone) → are_plain (zone_word x) ≡ true
zone-plain zone.Z1 = refl
zone-plain zone.Z2 = refl
zone-plain zone.Z3 = refl
zone-plain zone.Z4 = refl
zone-plain zone.Z5 = refl
zone-plain zone.Z6 = refl

posture-plain : (x : Posture) → are_plain (posture_word x) ≡ true
posture-plain posture.Closed = refl
posture-plain posture.Moving = refl
posture-plain posture.OpenIn = refl
posture-plain posture.OpenOut = refl

pose-plain : (x : Pose) → are_plain (pose_word x) ≡ true
pose-plain pose.Turning = refl
pose-plain pose.Loading = refl
pose-plain pose.Unloading = refl
pose-plain pose.Travelling = refl
pose-plain pose.Middle = refl
pose-plain pose.Low = refl
pose-plain pose.Top = refl
pose-plain pose.Running = refl
pose-plain pose.Landing = refl
pose-plain pose.Halted = refl
pose-plain pose.Offering = refl
pose-plain pose.Standing = refl

feed-plain : (x : FeedStep) → are_plain (feed_program.word_at x) ≡ true
feed-plain feed.ClaimEntry = refl
feed-plain feed.PoseLanding = refl
feed-plain feed.ReleaseEntry = refl
feed-plain feed.TakePlate = refl
feed-plain feed.StartIn = refl
feed-plain feed.RunIn = refl
feed-plain feed.MoveOn = refl
feed-plain feed.ClaimExit = refl
feed-plain feed.StartOut = refl
feed-plain feed.RunOut = refl
feed-plain feed.Halt = refl
feed-plain feed.GivePlate = refl

table-plain : (x : TableStep) → are_plain (table_program.word_at x) ≡ true
table-plain table.ClaimEntry = refl
table-plain table.ClaimExit = refl
table-plain table.LeaveForLoading = refl
table-plain table.MoveToLoading = refl
table-plain table.PoseLoading = refl
table-plain table.ReleaseEntry = refl
table-plain table.TakePlate = refl
table-plain table.LeaveForUnloading = refl
table-plain table.MoveToUnloading = refl
table-plain table.PoseUnloading = refl
table-plain table.GivePlate = refl
table-plain table.ClaimBack = refl

robot-plain : (x : RobotStep) → are_plain (robot_program.word_at x) ≡ true
robot-plain robot.TurnToTable = refl
robot-plain robot.AwaitPlate = refl
robot-plain robot.ReachTable = refl
robot-plain robot.GripPlate = refl
robot-plain robot.LeaveTable = refl
robot-plain robot.TakePlate = refl
robot-plain robot.ReleaseTable = refl
robot-plain robot.TurnToLoad = refl
robot-plain robot.ClaimPress = refl
robot-plain robot.InspectPress = refl
robot-plain robot.ReleasePress = refl
robot-plain robot.ReachToLoad = refl
robot-plain robot.DropInPress = refl
robot-plain robot.LeaveLoaded = refl
robot-plain robot.GiveToPress = refl
robot-plain robot.TurnToUnload = refl
robot-plain robot.AwaitForged = refl
robot-plain robot.ReachToUnload = refl
robot-plain robot.GripForged = refl
robot-plain robot.LeaveUnloaded = refl
robot-plain robot.TakeForged = refl
robot-plain robot.ReleaseUnloaded = refl
robot-plain robot.TurnToDeposit = refl
robot-plain robot.ClaimDeposit = refl
robot-plain robot.ReachDeposit = refl
robot-plain robot.DropOnDeposit = refl
robot-plain robot.LeaveDeposit = refl
robot-plain robot.GiveToDeposit = refl

press-plain : (x : PressStep) → are_plain (press_program.word_at x) ≡ true
press-plain press.ClaimFirst = refl
press-plain press.LeaveForMiddle = refl
press-plain press.MoveToMiddle = refl
press-plain press.PoseMiddle = refl
press-plain press.ReleaseInterior = refl
press-plain press.TakePlate = refl
press-plain press.LeaveForTop = refl
press-plain press.MoveToTop = refl
press-plain press.PoseTop = refl
press-plain press.Forge = refl
press-plain press.LeaveForBottom = refl
press-plain press.MoveToBottom = refl
press-plain press.PoseLow = refl
press-plain press.GivePlate = refl
press-plain press.ClaimBack = refl

deposit-plain : (x : DepositStep) → are_plain (deposit_program.word_at x) ≡ true
deposit-plain deposit.ClaimEntry = refl
deposit-plain deposit.ClaimExit = refl
deposit-plain deposit.PoseLanding = refl
deposit-plain deposit.ReleaseEntry = refl
deposit-plain deposit.TakePlate = refl
deposit-plain deposit.StartRun = refl
deposit-plain deposit.RunIn = refl
deposit-plain deposit.RunOut = refl
deposit-plain deposit.MoveOn = refl
deposit-plain deposit.PoseOffering = refl
deposit-plain deposit.GivePlate = refl
deposit-plain deposit.ClaimBack = refl

crane-plain : (x : CraneStep) → are_plain (crane_program.word_at x) ≡ true
crane-plain crane.RaiseToFetch = refl
crane-plain crane.TravelToDeposit = refl
crane-plain crane.AwaitPlate = refl
crane-plain crane.LowerToPlate = refl
crane-plain crane.GripPlate = refl
crane-plain crane.RaiseWithPlate = refl
crane-plain crane.TakePlate = refl
crane-plain crane.ReleaseDeposit = refl
crane-plain crane.TravelToFeed = refl
crane-plain crane.ClaimFeed = refl
crane-plain crane.LowerToFeed = refl
crane-plain crane.DropPlate = refl
crane-plain crane.RaiseFromFeed = refl
crane-plain crane.GivePlate = refl

stopped-plain : (x : Status) → are_plain (stopped_text x) ≡ true
stopped-plain status.Fine = refl
stopped-plain status.Worn = refl
stopped-plain status.Sensor = refl
stopped-plain status.Refused = refl
stopped-plain status.Memory = refl
stopped-plain status.GateLimit = refl

motor-plain : (x : Motor) → are_plain (fields.motor_text x) ≡ true
motor-plain motor.Off = refl
motor-plain motor.Plus = refl
motor-plain motor.Minus = refl

letter-plain : (b : Bool) (m : Machine) → are_plain (letter_word b m) ≡ true
letter-plain false machine.Feed = refl
letter-plain false machine.Table = refl
letter-plain false machine.Robot = refl
letter-plain false machine.Press = refl
letter-plain false machine.Deposit = refl
letter-plain false machine.Crane = refl
letter-plain false machine.Watch = refl
letter-plain true machine.Feed = refl
letter-plain true machine.Table = refl
letter-plain true machine.Robot = refl
letter-plain true machine.Press = refl
letter-plain true machine.Deposit = refl
letter-plain true machine.Crane = refl
letter-plain true machine.Watch = refl

flag-plain : (b : Bool) → are_plain (flag_word b) ≡ true
flag-plain true = refl
flag-plain false = refl

owner-plain : (o : Option Machine) → are_plain (owner_word o) ≡ true
owner-plain None = refl
owner-plain (Some m) = machine-plain m

refusal-plain : (r : Refusal) → are_plain (refusal_word r) ≡ true
refusal-plain refusal.NotParty = refl
refusal-plain (refusal.Held m) = machine-plain m
refusal-plain refusal.AlreadyMine = refl
refusal-plain (refusal.Shut p) = posture-plain p
refusal-plain (refusal.NotOwner o) = owner-plain o
refusal-plain (refusal.PlateInZone z) = zone-plain z
refusal-plain refusal.NoPlate = refl
refusal-plain refusal.PlaceFull = refl
refusal-plain refusal.WrongWay = refl
refusal-plain refusal.Jump = refl
refusal-plain refusal.NotAtWork = refl
refusal-plain refusal.NoPose = refl
refusal-plain refusal.Worn = refl
refusal-plain refusal.Stopped = refl
refusal-plain refusal.NotStopped = refl
refusal-plain refusal.InUse = refl

answer-plain : (a : Answer) → are_plain (answer_text a) ≡ true
answer-plain answer.Done = refl
answer-plain (answer.Shown o f p) = both (owner_word o) _ (owner-plain o) (both (flag_word f) _ (flag-plain f) (posture-plain p))
answer-plain (answer.Refused r) = refusal-plain r

call-plain : (c : Call) → are_plain (call_text c) ≡ true
call-plain (call.Claim z) = zone-plain z
call-plain (call.Give z) = zone-plain z
call-plain (call.Yield z) = zone-plain z
call-plain (call.Take z) = zone-plain z
call-plain (call.Release z) = zone-plain z
call-plain (call.SetPose p) = pose-plain p
call-plain call.Advance = refl
call-plain (call.Inquire z) = zone-plain z
call-plain call.Stop = refl
call-plain call.Resume = refl

-- ---- numbers and parts

signed-plain : (z : ℤ) → are_plain (signed_decimal z) ≡ true
signed-plain (pos n) = decimal-plain n
signed-plain (negsuc n) = decimal-plain (suc n)

axis-plain : (a : Axis) → are_plain (fields.axis_text a) ≡ true
axis-plain a = both (signed_decimal a.position) (fields.motor_text a.motor) (signed-plain a.position) (motor-plain a.motor)

plate-plain : (o : Option ℤ) → are_plain (fields.plate_text o) ≡ true
plate-plain None = refl
plate-plain (Some z) = signed-plain z

belt-plain : (b : Belt) → are_plain (fields.belt_text b) ≡ true
belt-plain b =
    both (fields.plate_text b.entry) _ (plate-plain b.entry) (both (fields.plate_text b.last) _ (plate-plain b.last) (flag-plain b.runs))

part-plain : (m : Machine) (p : PlantState) → are_plain (fields.part_text m p) ≡ true
part-plain machine.Feed p = belt-plain p.feed
part-plain machine.Table p = both (fields.axis_text p.table.lift) _ (axis-plain p.table.lift) (axis-plain p.table.turn)
part-plain machine.Robot p =
    both (fields.axis_text p.robot.arm1) _ (axis-plain p.robot.arm1)
    (both (fields.axis_text p.robot.arm2) _ (axis-plain p.robot.arm2)
    (both (fields.axis_text p.robot.rotation) _ (axis-plain p.robot.rotation)
    (both (flag_word p.robot.magnet1) _ (flag-plain p.robot.magnet1) (flag-plain p.robot.magnet2))))
part-plain machine.Press p = axis-plain p.press
part-plain machine.Deposit p = belt-plain p.deposit
part-plain machine.Crane p =
    both (fields.axis_text p.crane.travel) _ (axis-plain p.crane.travel)
    (both (fields.axis_text p.crane.gripper) _ (axis-plain p.crane.gripper) (flag-plain p.crane.magnet))
part-plain machine.Watch p = refl

-- ---- what lines say of a machine

word-plain : (m : Machine) (s : MachineSteps) → are_plain (fields.step_word m s) ≡ true
word-plain machine.Feed s = feed-plain s.feed
word-plain machine.Table s = table-plain s.table
word-plain machine.Robot s = robot-plain s.robot
word-plain machine.Press s = press-plain s.press
word-plain machine.Deposit s = deposit-plain s.deposit
word-plain machine.Crane s = crane-plain s.crane
word-plain machine.Watch s = refl

step-plain : (m : Machine) (f : Frame) → are_plain (fields.step_text m f) ≡ true
step-plain m f = both (fields.step_word m f.steps) (stopped_text (at_machine f.status m)) (word-plain m f.steps) (stopped-plain (at_machine f.status m))

state-plain : (s : ModelState) → are_plain (fields.word_text s) ≡ true
state-plain s = hex-plain (packed s)

asked-plain : (t : TurnCall) → are_plain (fields.asked_text t) ≡ true
asked-plain None = refl
asked-plain (Some (c, r)) = call-plain c

reply-plain : (r : Result Reply LineFault) → are_plain (fields.reply_text r) ≡ true
reply-plain (Ok (Settled a stamp)) = answer-plain a
reply-plain (Ok (Busy lost stamp)) = refl
reply-plain (Err Memory) = refl

answered-plain : (t : TurnCall) → are_plain (fields.answered_text t) ≡ true
answered-plain None = refl
answered-plain (Some (c, r)) = reply-plain r

-- ---- lines

new-plain : (old new : List ℕ) → are_plain new ≡ true → are_plain (if_new old new) ≡ true
new-plain old new p = elim (bytes_eq old new) as (λ b. are_plain (cond b [] new) ≡ true) [ true ↦ refl | false ↦ p ]

changes-plain : (m : Machine) (asked : TurnCall) (old : Fields) (f : Frame) → are_plain (changes_text old (fields_of m asked f)) ≡ true
changes-plain m asked old f =
    both (if_new old.step (fields.step_text m f)) _ (new-plain old.step (fields.step_text m f) (step-plain m f))
    (both (fields.asked_text asked) _ (asked-plain asked)
    (both (fields.answered_text asked) _ (answered-plain asked)
    (both (if_new old.word (fields.word_text f.state)) _ (new-plain old.word (fields.word_text f.state) (state-plain f.state))
    (new-plain old.part (fields.part_text m f.plant) (part-plain m f.plant)))))

turn-plain : (letter : List ℕ) (m : Machine) (asked : TurnCall) (old : Fields) (f : Frame) → are_plain letter ≡ true → are_plain (turn_line letter old (fields_of m asked f)) ≡ true
turn-plain letter m asked old f p =
    both letter _ p
    (elim (is_same old (fields_of m asked f)) as (λ b. are_plain (cond b [] (codes ";" ++ changes_text old (fields_of m asked f))) ≡ true)
    [ true ↦ refl | false ↦ changes-plain m asked old f ])

machine_text-plain : (m : Machine) (f : Frame) → are_plain (machine_text m f) ≡ true
unfolding machine_text
machine_text-plain m f = both (fields.step_text m f) _ (step-plain m f) (part-plain m f.plant)

start-plain : (f : Frame) → are_plain (start_line f) ≡ true
start-plain f =
    both (fields.word_text f.state) _ (state-plain f.state)
    (both (machine_text machine.Feed f) _ (machine_text-plain machine.Feed f)
    (both (machine_text machine.Table f) _ (machine_text-plain machine.Table f)
    (both (machine_text machine.Robot f) _ (machine_text-plain machine.Robot f)
    (both (machine_text machine.Press f) _ (machine_text-plain machine.Press f)
    (both (machine_text machine.Deposit f) _ (machine_text-plain machine.Deposit f) (machine_text-plain machine.Crane f))))))

line-plain : (t : Option Turn) (before : Option Frame) (said : LastCalls) (f : Frame) → are_plain (line_by t before said f) ≡ true
line-plain None before said f = start-plain f
line-plain (Some t) before said f =
    turn-plain (letter_word t.busy t.machine) t.machine f.asked (fields_before t.machine (at_machine said t.machine) before) f (letter-plain t.busy t.machine)

after-plain : (before : Option Frame) (said : LastCalls) (frames : List Frame) → are_plain (lines_after before said frames) ≡ true
after-plain before said [] = refl
after-plain before said (f ∷ fs) =
    both (frame_line before said f) _ (both (line_by f.turn before said f) (codes "\n") (line-plain f.turn before said f) refl) (after-plain (Some f) (said_after said f) fs)

cut-plain : (turns : ℕ) → are_plain (cut_line turns) ≡ true
cut-plain turns =
    elim (nat_lt max_turns turns) as (λ b. are_plain (cond b (codes "cut " ++ (decimal turns ++ codes "\n")) []) ≡ true)
    [ true ↦ both (decimal turns) _ (decimal-plain turns) refl | false ↦ refl ]

pub lines-plain : LinesNeedNoEscape
lines-plain = record { lines = after-plain None nothing_said; cut = cut-plain }
