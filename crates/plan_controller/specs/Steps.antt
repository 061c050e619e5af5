-- Steps of a program, and what each leads to.
use Rattle.std.specs.Prelude.{ℕ, ◌/◌, ◌%◌, ◌^◌, Bool, ◌&&◌, nat_eq, nat_lt, Option, Some, None}
use Rattle.std.specs.Prelude.{if◌then◌else◌}
use Rattle.plan_types.specs.declared.answer.Answer.{Answer}
use Rattle.plan_types.specs.declared.answer.Answer.TheVariants.{Done, Shown, Refused}
use Rattle.plan_types.specs.declared.answer.Refusal.{Refusal}
use Rattle.plan_rules.specs.Sound.{is_owned_by}
use Rattle.plan_drives.specs.declared.line.Line.{Line}
use Rattle.plan_drives.specs.declared.line.Line.TheVariants as line
use Rattle.plan_controller.specs.declared.faults.Faults.{Faults}
use Rattle.plan_controller.specs.declared.step.Step.{Step}
use Rattle.plan_controller.specs.declared.step.Step.TheVariants.{Do, Await, Run}
use Rattle.plan_controller.specs.declared.outcome.Outcome.{Outcome}
use Rattle.plan_controller.specs.declared.outcome.Outcome.TheVariants.{Stays, GoesOn, Stops}
use Rattle.plan_controller.specs.Faults.{is_waited_out, mendable, no_faults}

-- the line of a program, without its faults and its sensor
abbrev pub line_of : Step → Line
line_of (Do c faults) = line.Do c
line_of (Await z) = line.Await z
line_of (Run motors until) = line.Run motors

-- a sensor shows, if it has a bit, of 32
abbrev pub shows : ℕ → ℕ → Bool
shows sensors i = nat_lt i 32 && nat_eq (sensors / 2 ^ i % 2) 1

abbrev pub after_refusal : Refusal → Faults → Outcome
after_refusal r faults = if is_waited_out faults (mendable r) then Stays else Stops r

-- a call leads on once it is done; where it wasn't made, the machine stays
abbrev pub after_call : Option Answer → Faults → Outcome
after_call None faults = Stays
after_call (Some Done) faults = GoesOn
after_call (Some (Shown owner flag posture)) faults = Stays
after_call (Some (Refused r)) faults = after_refusal r faults

-- an inquiry leads on where it shows the machine as the owner
abbrev pub after_inquiry : ℕ → Option Answer → Outcome
after_inquiry m None = Stays
after_inquiry m (Some Done) = Stays
after_inquiry m (Some (Shown owner flag posture)) = if is_owned_by owner m then GoesOn else Stays
after_inquiry m (Some (Refused r)) = after_refusal r no_faults
