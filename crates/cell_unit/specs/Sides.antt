-- One machine's side of a run (its progress, what has stopped it, its part), and the effect of a turn on it.
use Rattle.std.specs.Prelude.{◌≡◌, List, Option, Some, None, Result, Ok, Err}
use Rattle.cell_rules.specs.Types.{Call, Event, Reply}
use Rattle.cell_rules.specs.Names.{ModelState}
use Rattle.cell_rules.specs.declared.heard.LineFault.{LineFault}
use Rattle.cell_control.specs.Names.{Rig, Steps, IsReached, Turned, Turns}
use Rattle.cell_control.specs.declared.fault.CtlFault.{CtlFault}
use Rattle.cell_notes.specs.Asks.{TurnCall, done_in}
use Rattle.cell_unit.specs.declared.unit.MachineUnit.{MachineUnit}

pub record Side (S State : Type 0) : Type 0 where
  pub progress : S
  pub stopped : Option CtlFault
  pub part : State

abbrev pub side_of : {S State : Type 0} → S → Option CtlFault → State → Side S State
side_of progress stopped part = record { progress = progress; stopped = stopped; part = part }

-- a controller that runs has reached its step by its machine's events
abbrev pub IsReady : {S Sense Reading Act : Type 0} → Steps S Sense Reading Act → ModelState → List Event
    → Option CtlFault → S → Type 0
IsReady t opening seen stopped p = stopped ≡ None → IsReached t opening seen p

-- a unit: its program, the table of its steps, the rig of its part, and its side
module _ {P B S Sense Reading Act : Type 0} where
  abbrev pub unit_program : MachineUnit P B S Sense Reading Act → P
  unit_program unit = unit.controller.program

  abbrev pub unit_table : (P → Steps S Sense Reading Act) → MachineUnit P B S Sense Reading Act
      → Steps S Sense Reading Act
  unit_table steps unit = steps unit.controller.program

  abbrev pub unit_rig : {Make State : Type 0} → (Make → Rig State Sense Act) → (B → Make)
      → MachineUnit P B S Sense Reading Act → Rig State Sense Act
  unit_rig rig make unit = rig (make unit.part)

  abbrev pub unit_side : {State : Type 0} → (B → State) → MachineUnit P B S Sense Reading Act → Side S State
  unit_side state unit = side_of unit.controller.progress unit.controller.stopped (state unit.part)

  abbrev pub UnitIsReady : (P → Steps S Sense Reading Act) → MachineUnit P B S Sense Reading Act → ModelState
      → List Event → Type 0
  UnitIsReady steps unit opening seen =
      IsReady (steps unit.controller.program) opening seen unit.controller.stopped unit.controller.progress

-- a part notes the event, if there is one
abbrev pub noting : {State Sense Act : Type 0} → Rig State Sense Act → State → Option Event → State
noting rig b None = b
noting rig b (Some e) = rig.notes b e

-- the actuators' commands: after a fault, those of a step that asks
abbrev pub act_or_rest : {Act : Type 0} → Act → Result Act CtlFault → Act
act_or_rest rest (Ok act) = act
act_or_rest rest (Err fault) = rest

-- after the part has noted what was done and its actuators are set; and after the part has moved
abbrev pub part_set : {S Sense Reading Act State : Type 0} → Steps S Sense Reading Act → Rig State Sense Act → State
    → TurnCall → Act → State
part_set t rig b asked act = rig.set (noting rig b (done_in t.machine asked)) act

abbrev pub side_set : {S Sense Reading Act State : Type 0} → Steps S Sense Reading Act → Rig State Sense Act
    → Side S State → TurnCall → Turned S Act → Side S State
side_set t rig side asked turned = record {
  progress = turned.progress;
  stopped = turned.stopped;
  part = part_set t rig side.part asked (act_or_rest (t.rest side.progress) turned.result);
}

abbrev pub side_moved : {S Sense Act State : Type 0} → Rig State Sense Act → Side S State → Side S State
side_moved rig side = record side { part = rig.moves side.part }

-- A turn until the actuators are set: the sensors are read, a row of the program is performed, and the part notes what
-- was done. `same` says that the line stays as it is, `asks` what it was asked and what came back.
pub record Acts {S Sense Reading Act State : Type 0} (t : Steps S Sense Reading Act) (rig : Rig State Sense Act)
    (same : Type 0) (asks : Call → Result Reply LineFault → Type 0) (before : Side S State) (asked : TurnCall)
    (set : Side S State) : Type 0 where
  pub sense : Sense
  pub shows : rig.shows before.part sense
  pub turned : Turned S Act
  pub row : Turns t (same × (asked ≡ None))
      (λ c r. asks c r × (asked ≡ Some (c, r))) before.stopped before.progress sense turned
  pub is : set ≡ side_set t rig before asked turned

-- then the part moves for a tick
pub record ActsAndMoves {S Sense Reading Act State : Type 0} (t : Steps S Sense Reading Act)
    (rig : Rig State Sense Act) (same : Type 0) (asks : Call → Result Reply LineFault → Type 0)
    (before : Side S State) (asked : TurnCall) (now : Side S State) : Type 0 where
  pub set : Side S State
  pub acts : Acts t rig same asks before asked set
  pub moved : now ≡ side_moved rig set

-- the actuators' commands in a turn at this step; what they demand holds of the history
pub record TellsByDemands {S Sense Reading Act State : Type 0} (t : Steps S Sense Reading Act)
    (rig : Rig State Sense Act) (p : S) (before : State) (asked : TurnCall) (now : State) (opening : ModelState)
    (seen : List Event) : Type 0 where
  pub act : Act
  pub told : now ≡ rig.moves (part_set t rig before asked act)
  pub motor_demands : t.motor_demands p act opening seen

-- they hold after a turn that leaves the machine running
abbrev pub DemandsHold : {S Sense Reading Act State : Type 0} → Steps S Sense Reading Act → Rig State Sense Act
    → Side S State → TurnCall → Side S State → ModelState → List Event → Type 0
DemandsHold t rig before asked now opening seen = now.stopped ≡ None
    → TellsByDemands t rig before.progress before.part asked now.part opening seen
