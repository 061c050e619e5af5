-- A controller, what a turn does, and what holds of the motors that it turns on.
use Rattle.std.specs.Prelude.{◌≡◌, ◌≢◌, ℕ, ◌+◌, nat_lt, List, length, map, slice_get, ◌++◌, ◌⊎◌, Option, Some, None}
use Rattle.std.specs.Prelude.{IsTrue, false, if◌then◌else◌}
use Rattle.plan_types.specs.declared.call.Call.{Call}
use Rattle.plan_types.specs.declared.call.Call.TheVariants.{Inquire}
use Rattle.plan_types.specs.declared.answer.Answer.{Answer}
use Rattle.plan_types.specs.declared.answer.Refusal.{Refusal}
use Rattle.plan_types.specs.declared.answer.Event.{Event}
use Rattle.plan_types.specs.Table.{PlanTable}
use Rattle.plan_rules.specs.declared.state.State.{State}
use Rattle.plan_rules.specs.History.{after, IsLegal}
use Rattle.plan_motors.specs.Motor.{Permits}
use Rattle.plan_motors.specs.OfPlan.{motor_at}
use Rattle.plan_motors.specs.MotorPlan.{MotorTables}
use Rattle.plan_drives.specs.declared.line.Line.{Line}
use Rattle.plan_drives.specs.Facts.{OpensByPoses}
use Rattle.plan_drives.specs.Program.{has_bit, IsDriven}
use Rattle.plan_drives.specs.InStep.{IsInStep}
use Rattle.plan_drives.specs.Course.{Stays, IsAt, IsRunning}
use Rattle.plan_controller.specs.declared.step.Step.{Step}
use Rattle.plan_controller.specs.declared.step.Step.TheVariants.{Do, Await, Run}
use Rattle.plan_controller.specs.declared.outcome.Outcome.{Outcome}
use Rattle.plan_controller.specs.declared.outcome.Outcome.TheVariants as outcome
use Rattle.plan_controller.specs.Steps.{line_of, shows, after_call, after_inquiry}

-- a controller: its machine, its program, its place in it, and what has stopped it
pub record Control : Type 0 where
  pub machine : ℕ
  pub steps : List Step
  pub place : ℕ
  pub stopped : Option Refusal

abbrev pub control : ℕ → List Step → ℕ → Option Refusal → Control
control machine steps place stopped = record { machine = machine; steps = steps; place = place; stopped = stopped }

abbrev pub step_in : Control → Option Step
step_in c = slice_get c.steps c.place

abbrev pub program_in : Control → List Line
program_in c = map line_of c.steps

-- after the last step comes the first
abbrev pub next_place : Control → ℕ
next_place c = if nat_lt (c.place + 1) (length c.steps) then c.place + 1 else 0

abbrev pub place_after : Control → Outcome → ℕ
place_after c outcome.Stays = c.place
place_after c outcome.GoesOn = next_place c
place_after c (outcome.Stops r) = c.place

abbrev pub stopped_after : Control → Outcome → Option Refusal
stopped_after c outcome.Stays = c.stopped
stopped_after c outcome.GoesOn = c.stopped
stopped_after c (outcome.Stops r) = Some r

abbrev pub advanced : Control → Outcome → Control
advanced c o = record c { place = place_after c o; stopped = stopped_after c o }

-- ---- a turn

-- A step is performed, with these motors on, and leads to this. `same` says that the line stays as it is, `asks` that
-- it was asked this call once, and what came back. A call is made with all motors off.
abbrev pub Performs : Control → Type 0 → (Call → Option Answer → Type 0) → ℕ → Option Step → ℕ → Outcome → Type 0
Performs c same asks sensors None motors o = same × (motors ≡ 0) × (o ≡ outcome.Stays)
Performs c same asks sensors (Some (Do call faults)) motors o =
    (answer : Option Answer) × asks call answer × (motors ≡ 0) × (o ≡ after_call answer faults)
Performs c same asks sensors (Some (Await z)) motors o =
    (answer : Option Answer) × asks (Inquire z) answer × (motors ≡ 0) × (o ≡ after_inquiry c.machine answer)
Performs c same asks sensors (Some (Run run until)) motors o =
    same
    × (motors ≡ (if shows sensors until then 0 else run))
    × (o ≡ (if shows sensors until then outcome.GoesOn else outcome.Stays))

-- the controller rests: nothing is asked, and all motors are off
abbrev pub Rests : Control → Type 0 → ℕ → Control → Type 0
Rests c same motors now = same × (motors ≡ 0) × (now ≡ c)

abbrev pub TurnsBy : Option Refusal → Control → Type 0 → (Call → Option Answer → Type 0) → Option ℕ → ℕ → Control
    → Type 0
TurnsBy None c same asks (Some sensors) motors now =
    (o : Outcome) × Performs c same asks sensors (step_in c) motors o × (now ≡ advanced c o)
TurnsBy None c same asks None motors now = Rests c same motors now
TurnsBy (Some r) c same asks sensors motors now = Rests c same motors now

-- One turn. A controller that has stopped rests, and so does one whose sensors weren't read; else it performs its step
abbrev pub Turns : Control → Type 0 → (Call → Option Answer → Type 0) → Option ℕ → ℕ → Control → Type 0
Turns c same asks sensors motors now = TurnsBy c.stopped c same asks sensors motors now

-- ---- what follows of it

-- these motors are on, at a step that runs them until a sensor shows: it was read, and doesn't show yet
pub record RunsHere (c : Control) (sensors : Option ℕ) (motors : ℕ) (now : Control) : Type 0 where
  pub running : c.stopped ≡ None
  pub until : ℕ
  pub step : step_in c ≡ Some (Run motors until)
  pub read : ℕ
  pub sensed : sensors ≡ Some read
  pub not_yet : shows read until ≡ false
  pub stays : now.place ≡ c.place

-- motors are on only at such a step; a controller that has stopped stays as it is, and so does one whose sensors
-- weren't read, with all motors off; a turn that stops the controller has none on; and a turn makes one step at most
pub record IsCareful (c : Control) (sensors : Option ℕ) (motors : ℕ) (now : Control) : Type 0 where
  pub runs : motors ≢ 0 → RunsHere c sensors motors now
  pub stopped : (r : Refusal) → c.stopped ≡ Some r → (motors ≡ 0) × (now ≡ c)
  pub unread : sensors ≡ None → (motors ≡ 0) × (now ≡ c)
  pub stops : (r : Refusal) → now.stopped ≡ Some r → motors ≡ 0
  pub one_step : (now.place ≡ c.place) ⊎ (now.place ≡ next_place c)
  pub machine : now.machine ≡ c.machine
  pub program : now.steps ≡ c.steps

-- ---- along the history

-- by what a line has seen, its machine is at a place in its controller's program
abbrev pub IsAtPlace : {L : Type 0} → (L → PlanTable) → (L → State) → (L → List Event) → L → Control → ℕ → Type 0
IsAtPlace table opening seen line c place =
    IsAt (table line) (opening line) (seen line) c.machine (program_in c) place

-- each motor that is on is one that the machine is running, at a line of its program, by all that was seen
abbrev pub AreRunning : PlanTable → State → List Event → Control → ℕ → Type 0
AreRunning t opening seen c motors =
    (i : ℕ) → IsTrue (has_bit motors i) → IsRunning t opening seen c.machine (program_in c) i

-- Where the program runs only what it may, by a plan with its motors, each motor that is on is permitted after all that
-- was seen, and after whatever then happens until a next call of the machine is done.
abbrev pub ArePermitted : PlanTable → State → List Event → Control → ℕ → Type 0
ArePermitted t opening seen c motors =
    (plan : MotorTables) → plan.plan ≡ t → IsDriven plan c.machine (program_in c) → OpensByPoses t opening
    → (more : List Event) → IsLegal t opening (seen ++ more) → Stays more c.machine
    → (i : ℕ) → IsTrue (has_bit motors i) → Permits t (after t opening (seen ++ more)) (motor_at plan.motors i)

-- a round may begin at any moment: who is at the first step is in place, whatever was seen
abbrev pub RoundsBeginAnywhere : Type 0
RoundsBeginAnywhere =
    (t : PlanTable) (opening : State) (seen : List Event) (c : Control) → c.place ≡ 0
    → IsAt t opening seen c.machine (program_in c) c.place

-- and who is in step with the opening, as after a power cut, while none of its calls is done
abbrev pub InStepGoesOn : Type 0
InStepGoesOn =
    (t : PlanTable) (opening : State) (seen : List Event) (c : Control)
    → IsInStep t opening c.machine (program_in c) c.place → Stays seen c.machine
    → IsAt t opening seen c.machine (program_in c) c.place
