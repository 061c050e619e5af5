-- A machine's program, as a table of its steps.
use Rattle.std.specs.Prelude.{◌≡◌, ℕ, zero, suc, Bool, true, false, ◌||◌, if◌then◌else◌, List, Option, None, Result}
use Rattle.std.specs.Prelude.{Ok, Err}
use Rattle.cell_rules.specs.Types.{Machine, Posture, Refusal, Stopped, Answer, Done, Shown, Refused, Event, Reply}
use Rattle.cell_rules.specs.Types.{Settled, Busy}
use Rattle.cell_sensors.specs.declared.sense.SensorFault.{SensorFault}
use Rattle.cell_rules.specs.Names.{ModelState, IsSound, after, IsLegal, own_events, IsSameFor, Program, Reached}
use Rattle.cell_rules.specs.declared.heard.LineFault.{LineFault}
use Rattle.cell_control.specs.declared.fault.CtlFault.{CtlFault}
use Rattle.cell_control.specs.declared.fault.CtlFault.TheVariants.{Memory}
use Rattle.cell_control.specs.declared.row.Row.{Row}
use Rattle.cell_control.specs.Faults.{fault_of}
use Rattle.cell_control.specs.Row.{waits_on}

-- S: a step with its notes; Sense: what the sensors show; Reading: what they say after the check; Act: the commands
pub record Steps (S Sense Reading Act : Type 0) : Type 1 where
  -- whose program it is; its first step, by the places that are full
  pub machine : Machine
  pub start : ModelState → S
  -- what a step asks, what it waits for, and the next step; a step that asks nothing drives
  pub row : S → Row S
  -- the next step by what an inquiry showed
  pub after_inquiry : S → Option Machine → Bool → Posture → S
  -- the check of the sensors: what they say, or why they can't be used
  pub senses : Sense → Result Reading SensorFault → Type 0
  -- the commands of a step that drives, and the next step; the commands of a step that asks
  pub drives : S → Reading → Act → Type 0
  pub after_drive : S → Reading → Act → S
  pub rest : S → Act
  -- what must hold of the history while a step has set the actuators so
  pub motor_demands : S → Act → ModelState → List Event → Type 0

-- a step whose call a stopped cell refuses stays, whatever else it waits for
abbrev pub is_while_stopped : Refusal → Bool
is_while_stopped Stopped = true
is_while_stopped _ = false

abbrev pub waits_out : {S Sense Reading Act : Type 0} → Steps S Sense Reading Act → S → Refusal → Bool
waits_out t p r = waits_on (t.row p).waits r || is_while_stopped r

-- the next step after an answer; on a refusal the step stays, or the controller stops
abbrev pub after_refusal : {S Sense Reading Act : Type 0} → Steps S Sense Reading Act → S → Refusal → Result S CtlFault
after_refusal t p r = if waits_out t p r then Ok p else Err (fault_of r)

abbrev pub after_answer : {S Sense Reading Act : Type 0} → Steps S Sense Reading Act → S → Answer → Result S CtlFault
after_answer t p Done = Ok (t.row p).next
after_answer t p (Refused r) = after_refusal t p r
after_answer t p (Shown owner flag posture) = Ok (t.after_inquiry p owner flag posture)

abbrev pub step_after_reply : {S Sense Reading Act : Type 0} → Steps S Sense Reading Act → S → Result Reply LineFault
    → Result S CtlFault
step_after_reply t p (Ok (Settled a stamp)) = after_answer t p a
step_after_reply t p (Ok (Busy lost stamp)) = Ok p
step_after_reply t p (Err fault) = Err Memory

-- a turn that asks nothing drives, by sensors that can be used
pub record Drives {S Sense Reading Act : Type 0} (t : Steps S Sense Reading Act) (p q : S) : Type 0 where
  pub asks_nothing : (t.row p).call ≡ None
  pub sense : Sense
  pub reading : Reading
  pub senses : t.senses sense (Ok reading)
  pub act : Act
  pub drives : t.drives p reading act
  pub is : q ≡ t.after_drive p reading act

abbrev pub program_of : {S Sense Reading Act : Type 0} → Steps S Sense Reading Act → Program S
program_of t = record {
  machine = t.machine;
  call = λ p. (t.row p).call;
  leads = λ p a q. after_answer t p a ≡ Ok q;
  moves = Drives t;
}

-- by its machine's events in a history, and by turns that drive between them, a program has come from one step to
-- another
abbrev pub ComesFrom : {S Sense Reading Act : Type 0} → Steps S Sense Reading Act → S → List Event → S → Type 0
ComesFrom t first seen p = Reached (program_of t) first (own_events seen t.machine) p

-- from each step from which the program had come before, it has come now
abbrev pub GoesOn : {S Sense Reading Act : Type 0} → Steps S Sense Reading Act → List Event → S → List Event → S
    → Type 0
GoesOn {S = S} t before p now q = (first : S) → ComesFrom t first before p → ComesFrom t first now q

-- Carried over from an interlock before: there the program was in step with the opening, and by what its machine saw it
-- has come to this step. What the machine knows of the state that it saw last is so in this one.
pub record IsCarriedOver {S Sense Reading Act : Type 0} (t : Steps S Sense Reading Act)
    (InStep : S → ModelState → Type 0) (p : S) (s : ModelState) : Type 0 where
  pub opening : ModelState
  pub sound : IsSound opening
  pub seen : List Event
  pub legal : IsLegal opening seen
  pub first : S
  pub in_step : InStep first opening
  pub come : ComesFrom t first seen p
  pub same : IsSameFor t.machine (after opening seen) s

-- A step is in step with a state if it is the first of the program there, with its notes; or, after this many renewals
-- of the interlock, if it was carried over.
abbrev pub InStepAfter : {S Sense Reading Act : Type 0} → Steps S Sense Reading Act → ℕ → S → ModelState → Type 0
InStepAfter t zero p s = p ≡ t.start s
InStepAfter t (suc renewals) p s = IsCarriedOver t (InStepAfter t renewals) p s

-- the machine reaches the step by its events in a history, from a step that was in step with the opening
pub record IsReached {S Sense Reading Act : Type 0} (t : Steps S Sense Reading Act) (opening : ModelState)
    (seen : List Event) (p : S) : Type 0 where
  pub renewals : ℕ
  pub first : S
  pub in_step : InStepAfter t renewals first opening
  pub come : ComesFrom t first seen p

-- the same program with another check of the sensors
abbrev pub with_senses : {S Sense Reading Act : Type 0} → Steps S Sense Reading Act
    → (Sense → Result Reading SensorFault → Type 0) → Steps S Sense Reading Act
with_senses t senses = record t { senses = senses }

-- what its motors demand with these commands, at a step that asks nothing, holds of each legal history that reaches it
abbrev pub MeetsDemandsOnceReached : {S Sense Reading Act : Type 0} → Steps S Sense Reading Act → S → Act → Type 0
MeetsDemandsOnceReached t p act = (t.row p).call ≡ None → (opening : ModelState) (seen : List Event)
    → IsSound opening → IsLegal opening seen → IsReached t opening seen p → t.motor_demands p act opening seen
