-- A machine's status and the effect of its turn: rows with literal answers, for any program and any part.
use Rattle.std.specs.Prelude.{◌≡◌, ⊤, ◌⊎◌, ℕ, Bool, true, false, List, [], ◌∷◌, ◌++◌, Option, Some, None}
use Rattle.std.specs.Prelude.{Result, Ok, Err}
use Rattle.cell_rules.specs.Types.{Machine, Posture, Call, Refusal, Jump, Stopped, Answer, Event, Reply}
use Rattle.cell_rules.specs.Types.{Settled, Busy}
use Rattle.cell_types.specs.declared.answer.Refusal.TheVariants.{Worn as NoStamp}
use Rattle.cell_types.specs.declared.answer.Answer.TheVariants as answer
use Rattle.cell_sensors.specs.declared.sense.SensorFault.{SensorFault}
use Rattle.cell_rules.specs.Names.{ModelState, reply, next, event, Desk}
use Rattle.cell_rules.specs.declared.heard.LineFault.{LineFault}
use Rattle.cell_rules.specs.declared.heard.LineFault.TheVariants as line
use Rattle.cell_control.specs.Names.{IsReached, Rig, waits_on, Steps, Says}
use Rattle.cell_control.specs.declared.fault.CtlFault.{CtlFault}
use Rattle.cell_control.specs.declared.fault.CtlFault.TheVariants as fault
use Rattle.cell_notes.specs.Names.{TurnCall, Notes, notes_with}
use Rattle.cell_notes.specs.declared.status.Status.TheVariants.{Fine, Worn, Sensor, Refused, Memory}
use Rattle.cell_unit.specs.Statuses.{status_of}
use Rattle.cell_unit.specs.Sides.{Side, ActsAndMoves, IsReady, side_moved}
use Rattle.cell_unit.specs.UnitTurns.{Taken, Takes, UnitTurn}

-- ---- a machine's status, by what has stopped its controller

pub record StatusRows : Type 0 where
  pub runs : status_of None ≡ Fine
  pub sensor : (f : SensorFault) → status_of (Some (fault.Sensor f)) ≡ Sensor
  pub refused : (r : Refusal) → status_of (Some (fault.Refused r)) ≡ Refused
  pub worn : status_of (Some fault.Worn) ≡ Worn
  pub out_of_memory : status_of (Some fault.Memory) ≡ Memory
  pub stopped : status_of (Some fault.Stopped) ≡ Refused

-- ---- a machine's side after a turn over any line

-- the machine has this progress and fault; its part was set so and has moved for a tick
abbrev pub comes_to : {S Sense Act State : Type 0} → Rig State Sense Act → S → Option CtlFault → State → Act
    → Side S State
comes_to rig progress stopped part act = record {
  progress = progress;
  stopped = stopped;
  part = rig.moves (rig.set part act);
}

-- for everything that the part may show, the sensors say this
abbrev pub PartSays : {S Sense Reading Act State : Type 0} → Steps S Sense Reading Act → Rig State Sense Act → State
    → Result Reading SensorFault → Type 0
PartSays {Sense = Sense} t rig part said = (s : Sense) → rig.shows part s → Says t s said

-- nothing has stopped it, and its step asks this call; or its step drives, by these commands and no others
pub record IsAsking {S Sense Reading Act State : Type 0} (t : Steps S Sense Reading Act) (rig : Rig State Sense Act)
    (before : Side S State) (reading : Reading) (call : Call) : Type 0 where
  pub runs : before.stopped ≡ None
  pub says : PartSays t rig before.part (Ok reading)
  pub asks : (t.row before.progress).call ≡ Some call

pub record IsDriving {S Sense Reading Act State : Type 0} (t : Steps S Sense Reading Act) (rig : Rig State Sense Act)
    (before : Side S State) (reading : Reading) (act : Act) : Type 0 where
  pub runs : before.stopped ≡ None
  pub says : PartSays t rig before.part (Ok reading)
  pub asks_nothing : (t.row before.progress).call ≡ None
  pub drives_only : (other : Act) → t.drives before.progress reading other → other ≡ act

-- a turn over a line that answers so; and one over a line that is asked nothing
abbrev pub UnitAnswered : {S Sense Reading Act State : Type 0} → Steps S Sense Reading Act → Rig State Sense Act
    → Side S State → Result Reply LineFault → TurnCall → Side S State → Type 0
UnitAnswered t rig before answered asked now = ActsAndMoves t rig ⊥ (λ call r. r ≡ answered) before asked now

abbrev pub Alone : {S Sense Reading Act State : Type 0} → Steps S Sense Reading Act → Rig State Sense Act
    → Side S State → TurnCall → Side S State → Type 0
Alone t rig before asked now = ActsAndMoves t rig ⊤ (λ call r. ⊥) before asked now

-- a turn is taken until the actuators are set, and then the part moves; a controller that has stopped is always ready,
-- and one that runs has reached its step
pub record TakenRows {S Sense Reading Act State : Type 0} (t : Steps S Sense Reading Act) (rig : Rig State Sense Act)
    (before now : Side S State) (asked : TurnCall) : Type 0 where
  pub moves_then : (busy : Bool) (z y : ModelState) → Takes t rig busy z before asked y now
      → Taken t rig busy z before asked y (side_moved rig now)
  pub was_set : (busy : Bool) (z y : ModelState) → Taken t rig busy z before asked y now
      → (set : Side S State) × Takes t rig busy z before asked y set × (now ≡ side_moved rig set)
  pub stopped_is_ready : (opening : ModelState) (seen : List Event) (f : CtlFault)
      → IsReady t opening seen (Some f) now.progress
  pub running_has_reached : (opening : ModelState) (seen : List Event) → IsReady t opening seen None now.progress
      → IsReached t opening seen now.progress

pub record SideRows {S Sense Reading Act State : Type 0} (t : Steps S Sense Reading Act) (rig : Rig State Sense Act)
    (before : Side S State) (asked : TurnCall) (now : Side S State) : Type 0 where
  -- the part notes a call that is done
  pub done : (reading : Reading) (call : Call) (stamp : ℕ) → IsAsking t rig before reading call
      → UnitAnswered t rig before (Ok (Settled answer.Done stamp)) asked now
      → (asked ≡ Some (call, Ok (Settled answer.Done stamp)))
      × (now ≡ comes_to rig (t.row before.progress).next None
      (rig.notes before.part (event t.machine call answer.Done)) (t.rest before.progress))
  -- it notes nothing else
  pub shown : (reading : Reading) (call : Call) (owner : Option Machine) (flag : Bool) (posture : Posture) (stamp : ℕ)
      → IsAsking t rig before reading call
      → UnitAnswered t rig before (Ok (Settled (answer.Shown owner flag posture) stamp)) asked now
      → (asked ≡ Some (call, Ok (Settled (answer.Shown owner flag posture) stamp)))
      × (now ≡ comes_to rig (t.after_inquiry before.progress owner flag posture) None before.part
      (t.rest before.progress))
  pub waits : (reading : Reading) (call : Call) (r : Refusal) (stamp : ℕ)
      → waits_on (t.row before.progress).waits r ≡ true → IsAsking t rig before reading call
      → UnitAnswered t rig before (Ok (Settled (answer.Refused r) stamp)) asked now
      → (asked ≡ Some (call, Ok (Settled (answer.Refused r) stamp)))
      × (now ≡ comes_to rig before.progress None before.part (t.rest before.progress))
  pub while_stopped : (reading : Reading) (call : Call) (stamp : ℕ) → IsAsking t rig before reading call
      → UnitAnswered t rig before (Ok (Settled (answer.Refused Stopped) stamp)) asked now
      → (asked ≡ Some (call, Ok (Settled (answer.Refused Stopped) stamp)))
      × (now ≡ comes_to rig before.progress None before.part (t.rest before.progress))
  pub refused : (reading : Reading) (call : Call) (stamp : ℕ) → waits_on (t.row before.progress).waits Jump ≡ false
      → IsAsking t rig before reading call
      → UnitAnswered t rig before (Ok (Settled (answer.Refused Jump) stamp)) asked now
      → (asked ≡ Some (call, Ok (Settled (answer.Refused Jump) stamp)))
      × (now ≡ comes_to rig before.progress (Some (fault.Refused Jump)) before.part (t.rest before.progress))
  pub worn : (reading : Reading) (call : Call) (stamp : ℕ) → waits_on (t.row before.progress).waits NoStamp ≡ false
      → IsAsking t rig before reading call
      → UnitAnswered t rig before (Ok (Settled (answer.Refused NoStamp) stamp)) asked now
      → (asked ≡ Some (call, Ok (Settled (answer.Refused NoStamp) stamp)))
      × (now ≡ comes_to rig before.progress (Some fault.Worn) before.part (t.rest before.progress))
  pub busy : (reading : Reading) (call : Call) (lost stamp : ℕ) → IsAsking t rig before reading call
      → UnitAnswered t rig before (Ok (Busy lost stamp)) asked now
      → (asked ≡ Some (call, Ok (Busy lost stamp))) × (now ≡ comes_to rig before.progress None before.part
      (t.rest before.progress))
  pub out_of_memory : (reading : Reading) (call : Call) → IsAsking t rig before reading call
      → UnitAnswered t rig before (Err line.Memory) asked now
      → (asked ≡ Some (call, Err line.Memory)) × (now ≡ comes_to rig before.progress (Some fault.Memory) before.part
      (t.rest before.progress))
  -- a step that drives asks nothing; neither does a machine that can't go on
  pub drives : (reading : Reading) (act : Act) → IsDriving t rig before reading act → Alone t rig before asked now
      → (asked ≡ None) × (now ≡ comes_to rig (t.after_drive before.progress reading act) None before.part act)
  pub sensor : (f : SensorFault) → before.stopped ≡ None → PartSays t rig before.part (Err f)
      → Alone t rig before asked now
      → (asked ≡ None) × (now ≡ comes_to rig before.progress (Some (fault.Sensor f)) before.part
      (t.rest before.progress))
  pub stopped : (f : CtlFault) → before.stopped ≡ Some f → Alone t rig before asked now
      → (asked ≡ None) × (now ≡ comes_to rig before.progress (Some f) before.part (t.rest before.progress))
  pub taken : TakenRows t rig before now asked

-- ---- a turn over a bench

-- the bench is as it was, except for the machine seated there
pub record BenchStays (old new : Desk) : Type 0 where
  pub opening : new.opening ≡ old.opening
  pub state : new.state ≡ old.state
  pub history : new.history ≡ old.history

-- the machine's side after an answer: it goes on and its part notes the call if it is done; it goes on as it is shown;
-- it stays at its step if it waits; and it stops with what else it is refused for
pub record GoesOnBy {S Sense Reading Act State : Type 0} (t : Steps S Sense Reading Act) (rig : Rig State Sense Act)
    (call : Call) (a : Answer) (new : Desk) (before now : Side S State) : Type 0 where
  pub done : a ≡ answer.Done
      → now ≡ comes_to rig (t.row before.progress).next None (rig.notes before.part (event t.machine call answer.Done))
      (t.rest before.progress)
  pub shown : (owner : Option Machine) (flag : Bool) (posture : Posture) → a ≡ answer.Shown owner flag posture
      → now ≡ comes_to rig (t.after_inquiry before.progress owner flag posture) None before.part
      (t.rest before.progress)
  pub waits : (r : Refusal) → a ≡ answer.Refused r → waits_on (t.row before.progress).waits r ≡ true
      → now ≡ comes_to rig before.progress None before.part (t.rest before.progress)
  pub while_stopped : a ≡ answer.Refused Stopped
      → now ≡ comes_to rig before.progress None before.part (t.rest before.progress)
  pub refused : a ≡ answer.Refused Jump → waits_on (t.row before.progress).waits Jump ≡ false
      → now ≡ comes_to rig before.progress (Some (fault.Refused Jump)) before.part (t.rest before.progress)
  pub worn : a ≡ answer.Refused NoStamp → waits_on (t.row before.progress).waits NoStamp ≡ false
      → now ≡ comes_to rig before.progress (Some fault.Worn) before.part (t.rest before.progress)
  -- after a call that is done, the motors' demands hold with the call's event in the history
  pub demanded : a ≡ answer.Done → now.stopped ≡ None
      → (set : Act)
      × (now.part ≡ rig.moves (rig.set (rig.notes before.part (event t.machine call answer.Done)) set))
      × t.motor_demands before.progress set new.opening new.history

-- the call has its answer by the state; or it is out of memory
pub record IsAnswered {S Sense Reading Act State : Type 0} (t : Steps S Sense Reading Act) (rig : Rig State Sense Act)
    (call : Call) (old new : Desk) (before now : Side S State) (notes notes' : Notes) (asked : TurnCall)
    : Type 0 where
  pub told : asked ≡ Some (call, Ok (Settled (reply old.state t.machine call) new.state.stamp))
  pub opening : new.opening ≡ old.opening
  pub state : new.state ≡ next old.state t.machine call
  pub history : new.history ≡ old.history ++ event t.machine call (reply old.state t.machine call) ∷ []
  pub side : GoesOnBy t rig call (reply old.state t.machine call) new before now
  pub noted : notes' ≡ notes_with notes (Some (call, Ok (Settled (reply old.state t.machine call) new.state.stamp)))

pub record IsRefusedMemory {S Sense Reading Act State : Type 0} (t : Steps S Sense Reading Act)
    (rig : Rig State Sense Act) (call : Call) (old new : Desk) (before now : Side S State) (notes notes' : Notes)
    (asked : TurnCall) : Type 0 where
  pub told : asked ≡ Some (call, Err line.Memory)
  pub bench : BenchStays old new
  pub side : now ≡ comes_to rig before.progress (Some fault.Memory) before.part (t.rest before.progress)
  pub noted : notes' ≡ notes_with notes (Some (call, Err line.Memory))

pub record DoesNothing {S State : Type 0} (old new : Desk) (before now : Side S State) (notes notes' : Notes)
    (asked : TurnCall) : Type 0 where
  pub asks_nothing : asked ≡ None
  pub bench : BenchStays old new
  pub side : now ≡ before
  pub noted : notes' ≡ notes

pub record FindsBusy {S Sense Reading Act State : Type 0} (t : Steps S Sense Reading Act) (rig : Rig State Sense Act)
    (call : Call) (old new : Desk) (before now : Side S State) (notes notes' : Notes) (asked : TurnCall)
    : Type 0 where
  pub told : asked ≡ Some (call, Ok (Busy 1 old.state.stamp))
  pub bench : BenchStays old new
  pub side : now ≡ comes_to rig before.progress None before.part (t.rest before.progress)
  pub noted : notes' ≡ notes_with notes (Some (call, Ok (Busy 1 old.state.stamp)))
  pub demanded : now.stopped ≡ None
      → (set : Act) × (now.part ≡ rig.moves (rig.set before.part set))
      × t.motor_demands before.progress set new.opening new.history

pub record Drives {S Sense Reading Act State : Type 0} (t : Steps S Sense Reading Act) (rig : Rig State Sense Act)
    (reading : Reading) (act : Act) (old new : Desk) (before now : Side S State) (notes notes' : Notes)
    (asked : TurnCall) : Type 0 where
  pub asks_nothing : asked ≡ None
  pub bench : BenchStays old new
  pub side : now ≡ comes_to rig (t.after_drive before.progress reading act) None before.part act
  pub noted : notes' ≡ notes_with notes None
  pub demanded : now.stopped ≡ None
      → (set : Act) × (now.part ≡ rig.moves (rig.set before.part set))
      × t.motor_demands before.progress set new.opening new.history

pub record UnitRows {S Sense Reading Act State : Type 0} (t : Steps S Sense Reading Act) (rig : Rig State Sense Act)
    (old new : Desk) (before now : Side S State) (notes notes' : Notes) (asked : TurnCall) : Type 0 where
  pub stopped : (f : CtlFault) (busy : Bool) → before.stopped ≡ Some f
      → UnitTurn t rig busy old new before now notes notes' asked → DoesNothing old new before now notes notes' asked
  pub busy : (reading : Reading) (call : Call) → IsAsking t rig before reading call
      → UnitTurn t rig true old new before now notes notes' asked
      → FindsBusy t rig call old new before now notes notes' asked
  pub asks : (reading : Reading) (call : Call) → IsAsking t rig before reading call
      → UnitTurn t rig false old new before now notes notes' asked
      → IsAnswered t rig call old new before now notes notes' asked
      ⊎ IsRefusedMemory t rig call old new before now notes notes' asked
  pub drives : (reading : Reading) (act : Act) (busy : Bool) → IsDriving t rig before reading act
      → UnitTurn t rig busy old new before now notes notes' asked
      → Drives t rig reading act old new before now notes notes' asked

-- ---- each turn has its rows

abbrev pub EachHasSideRows : {S Sense Reading Act State : Type 0} → Steps S Sense Reading Act → Rig State Sense Act
    → Type 0
EachHasSideRows {S = S} {State = State} t rig =
    (before now : Side S State) (asked : TurnCall) → SideRows t rig before asked now

abbrev pub EachHasUnitRows : {S Sense Reading Act State : Type 0} → Steps S Sense Reading Act → Rig State Sense Act
    → Type 0
EachHasUnitRows {S = S} {State = State} t rig = (old new : Desk) (before now : Side S State) (notes notes' : Notes)
    (asked : TurnCall) → UnitRows t rig old new before now notes notes' asked
