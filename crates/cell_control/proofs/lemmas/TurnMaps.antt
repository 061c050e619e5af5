-- A controller's turn, by another relation to its line.
use Rattle.std.proofs.Common.{◌≡◌, subst, Option, Some, None, Result, Ok, Err}
use Rattle.cell_rules.specs.Types.{Call, Reply}
use Rattle.cell_sensors.specs.declared.sense.SensorFault.{SensorFault}
use Rattle.cell_rules.specs.declared.heard.LineFault.{LineFault}
use Rattle.cell_control.specs.Names.{Steps, Performed, PerformsCall, PerformsSensed, Turned, Turns}
use Rattle.cell_control.specs.declared.fault.CtlFault.{CtlFault}

module _ {S Sense Reading Act : Type 0} (t : Steps S Sense Reading Act) (same same' : Type 0) (asks asks' : Call → Result Reply LineFault → Type 0) (f : same → same') (g : (c : Call) (r : Result Reply LineFault) → asks c r → asks' c r) where
  call_map : (o : Option Call) (p : S) (reading : Reading) (r : Performed S Act) → PerformsCall t o same asks p reading r → PerformsCall t o same' asks' p reading r
  call_map None p reading r h = (f h.0, h.1)
  call_map (Some c) p reading r h = (h.0, g c h.0 h.1, h.2)

  sensed_map : (sensed : Result Reading SensorFault) (p : S) (r : Performed S Act) → PerformsSensed t sensed same asks p r → PerformsSensed t sensed same' asks' p r
  sensed_map (Err fault) p r h = (f h.0, h.1)
  sensed_map (Ok reading) p r h = call_map (t.row p).call p reading r h

  pub turn_map : (stopped : Option CtlFault) (p : S) (s : Sense) (w : Turned S Act) → Turns t same asks stopped p s w → Turns t same' asks' stopped p s w
  turn_map (Some fault) p s w h = (f h.0, h.1)
  turn_map None p s w h = (h.0, record { sensed = h.1.sensed; senses = h.1.senses; performs = sensed_map h.1.sensed p h.0 h.1.performs }, h.2)

-- a turn asks nothing or one call
module _ {S Sense Reading Act : Type 0} (t : Steps S Sense Reading Act) (same : Type 0) (asks : Call → Result Reply LineFault → Type 0) (P : Type 0) (f : same → P) (g : (c : Call) (r : Result Reply LineFault) → asks c r → P) where
  call_either : (o : Option Call) (p : S) (reading : Reading) (r : Performed S Act) → PerformsCall t o same asks p reading r → P
  call_either None p reading r h = f h.0
  call_either (Some c) p reading r h = g c h.0 h.1

  sensed_either : (sensed : Result Reading SensorFault) (p : S) (r : Performed S Act) → PerformsSensed t sensed same asks p r → P
  sensed_either (Err fault) p r h = f h.0
  sensed_either (Ok reading) p r h = call_either (t.row p).call p reading r h

  pub turn_either : (stopped : Option CtlFault) (p : S) (s : Sense) (w : Turned S Act) → Turns t same asks stopped p s w → P
  turn_either (Some fault) p s w h = f h.0
  turn_either None p s w h = sensed_either h.1.sensed p h.0 h.1.performs

-- a turn by an equal sense
module _ {S Sense Reading Act : Type 0} (t : Steps S Sense Reading Act) (same : Type 0) (asks : Call → Result Reply LineFault → Type 0) where
  pub turn_of_sense : (stopped : Option CtlFault) (p : S) (s s' : Sense) (w : Turned S Act) → s ≡ s' → Turns t same asks stopped p s w → Turns t same asks stopped p s' w
  turn_of_sense stopped p s s' w e h = subst (λ (x : Sense). Turns t same asks stopped p x w) e h
