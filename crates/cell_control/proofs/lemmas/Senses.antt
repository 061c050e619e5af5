-- With less known of the sensors, a turn is still a turn, and a reached step is still reached.
use Rattle.std.proofs.Common.{◌≡◌, Option, Some, None, Result, Ok, Err, refl, ◌∙◌, ap}
use Rattle.cell_rules.specs.Types.{Call, Answer, Done, Shown, Refused, Reply, Settled, Busy}
use Rattle.cell_sensors.specs.declared.sense.SensorFault.{SensorFault}
use Rattle.cell_rules.specs.declared.heard.LineFault.{LineFault}
use Rattle.cell_control.specs.Names.{Steps, after_answer, step_after_reply, with_senses, Performed, PerformsCall, PerformsSensed, Turned, Turns, at_rest}
use Rattle.cell_control.specs.declared.fault.CtlFault.{CtlFault}

module _ {S Sense Reading Act : Type 0} (t : Steps S Sense Reading Act) (senses : Sense → Result Reading SensorFault → Type 0) (f : (s : Sense) (r : Result Reading SensorFault) → t.senses s r → senses s r) where
  answer_same : (p : S) (a : Answer) → after_answer t p a ≡ after_answer (with_senses t senses) p a
  answer_same p Done = refl
  answer_same p (Refused r) = refl
  answer_same p (Shown owner flag posture) = refl

  outcome_same : (p : S) (r : Result Reply LineFault) → step_after_reply t p r ≡ step_after_reply (with_senses t senses) p r
  outcome_same p (Ok (Settled a stamp)) = answer_same p a
  outcome_same p (Ok (Busy lost stamp)) = refl
  outcome_same p (Err fault) = refl

  call_still : (same : Type 0) (asks : Call → Result Reply LineFault → Type 0) (o : Option Call) (p : S) (reading : Reading) (r : Performed S Act) → PerformsCall t o same asks p reading r → PerformsCall (with_senses t senses) o same asks p reading r
  call_still same asks None p reading r h = h
  call_still same asks (Some c) p reading r h = (h.0, h.1, h.2 ∙ ap (λ x. at_rest (t.rest p) x) (outcome_same p h.0))

  sensed_still : (same : Type 0) (asks : Call → Result Reply LineFault → Type 0) (sensed : Result Reading SensorFault) (p : S) (r : Performed S Act) → PerformsSensed t sensed same asks p r → PerformsSensed (with_senses t senses) sensed same asks p r
  sensed_still same asks (Err fault) p r h = h
  sensed_still same asks (Ok reading) p r h = call_still same asks (t.row p).call p reading r h

  pub turns_still : (same : Type 0) (asks : Call → Result Reply LineFault → Type 0) (stopped : Option CtlFault) (p : S) (s : Sense) (w : Turned S Act) → Turns t same asks stopped p s w → Turns (with_senses t senses) same asks stopped p s w
  turns_still same asks (Some fault) p s w h = h
  turns_still same asks None p s w h = (h.0, record { sensed = h.1.sensed; senses = f s h.1.sensed h.1.senses; performs = sensed_still same asks h.1.sensed p h.0 h.1.performs }, h.2)
