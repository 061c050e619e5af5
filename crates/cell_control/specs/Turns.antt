-- A turn of a controller.
use Rattle.std.specs.Prelude.{◌≡◌, Option, Some, None, Result, Ok, Err}
use Rattle.cell_rules.specs.Types.{Call, Reply}
use Rattle.cell_sensors.specs.declared.sense.SensorFault.{SensorFault}
use Rattle.cell_rules.specs.Names.{Hears}
use Rattle.cell_rules.specs.declared.heard.LineFault.{LineFault}
use Rattle.cell_rules.specs.declared.heard.Heard.{Heard}
use Rattle.cell_control.specs.declared.fault.CtlFault.{CtlFault}
use Rattle.cell_control.specs.declared.fault.CtlFault.TheVariants.{Sensor, Stopped}
use Rattle.cell_control.specs.Steps.{Steps, step_after_reply}

-- the next step and the actuators' commands, or the fault
abbrev pub Performed : Type 0 → Type 0 → Type 0
Performed S Act = Result (S × Act) CtlFault

abbrev pub at_rest : {S Act : Type 0} → Act → Result S CtlFault → Performed S Act
at_rest act (Ok p) = Ok (p, act)
at_rest act (Err fault) = Err fault

-- a step is performed: one that asks does so once, with the motors off; one that drives asks nothing
abbrev pub PerformsCall : {S Sense Reading Act : Type 0} → Steps S Sense Reading Act → Option Call → Type 0
    → (Call → Result Reply LineFault → Type 0) → S → Reading → Performed S Act → Type 0
PerformsCall {Act = Act} t None same asks p reading r = same
    × ((act : Act) × t.drives p reading act × (r ≡ Ok (t.after_drive p reading act, act)))
PerformsCall t (Some c) same asks p reading r = (answered : Result Reply LineFault) × asks c answered
    × (r ≡ at_rest (t.rest p) (step_after_reply t p answered))

abbrev pub PerformsSensed : {S Sense Reading Act : Type 0} → Steps S Sense Reading Act → Result Reading SensorFault
    → Type 0 → (Call → Result Reply LineFault → Type 0) → S → Performed S Act → Type 0
PerformsSensed t (Err fault) same asks p r = same × (r ≡ Err (Sensor fault))
PerformsSensed t (Ok reading) same asks p r = PerformsCall t (t.row p).call same asks p reading r

-- first the sensors are checked; `same` says that the line stays as it is, `asks` what it was asked and what came back
pub record Performs {S Sense Reading Act : Type 0} (t : Steps S Sense Reading Act) (same : Type 0)
    (asks : Call → Result Reply LineFault → Type 0) (p : S) (s : Sense) (r : Performed S Act) : Type 0 where
  pub sensed : Result Reading SensorFault
  pub senses : t.senses s sensed
  pub performs : PerformsSensed t sensed same asks p r

-- the result of a turn, by what the actuators are told and the fault
abbrev pub answered : {Act : Type 0} → Act → Option CtlFault → Result Act CtlFault
answered act None = Ok act
answered act (Some fault) = Err fault

-- the result of a turn, the progress, and what has stopped the controller
pub record Turned (S Act : Type 0) : Type 0 where
  pub result : Result Act CtlFault
  pub progress : S
  pub stopped : Option CtlFault

abbrev pub turned : {S Act : Type 0} → S → Performed S Act → Turned S Act
turned p (Ok led) = record { result = Ok led.1; progress = led.0; stopped = None }
turned p (Err fault) = record { result = Err fault; progress = p; stopped = Some fault }

-- one turn: a controller that has stopped does nothing, and keeps what has stopped it
abbrev pub Turns : {S Sense Reading Act : Type 0} → Steps S Sense Reading Act → Type 0
    → (Call → Result Reply LineFault → Type 0) → Option CtlFault → S → Sense → Turned S Act → Type 0
Turns t same asks (Some fault) p s w = same × (w ≡ record { result = Err Stopped; progress = p; stopped = Some fault })
Turns {S = S} {Act = Act} t same asks None p s w = (r : Performed S Act) × Performs t same asks p s r × (w ≡ turned p r)

-- what a step asks after the check of its sensors
abbrev pub asked_at : {S Sense Reading Act : Type 0} → Steps S Sense Reading Act → Result Reading SensorFault → S
    → Option Call
asked_at t (Err fault) p = None
asked_at t (Ok reading) p = (t.row p).call

-- what the line hears of a turn
pub record HearsOnce {S Sense Reading Act : Type 0} (t : Steps S Sense Reading Act) (p : S) (s : Sense)
    (before now : Heard) : Type 0 where
  pub sensed : Result Reading SensorFault
  pub senses : t.senses s sensed
  pub hears : Hears (asked_at t sensed p) before now

abbrev pub HearsTurn : {S Sense Reading Act : Type 0} → Steps S Sense Reading Act → Option CtlFault → S → Sense
    → Heard → Heard → Type 0
HearsTurn t (Some fault) p s before now = now ≡ before
HearsTurn t None p s before now = HearsOnce t p s before now

-- something holds of what the sensors showed
abbrev pub Reads : {Sense : Type 0} → (Sense → Type 0) → (Sense → Type 0) → Type 0
Reads {Sense = Sense} shows holds = (sense : Sense) × shows sense × holds sense
