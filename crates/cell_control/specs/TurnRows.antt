-- The effect of a turn, by what comes back from its call: rows with literal answers, for any step of any program.
use Rattle.std.specs.Prelude.{◌≡◌, ⊤, ℕ, Bool, true, false, List, [], ◌∷◌, Option, Some, None, Result, Ok, Err}
use Rattle.cell_rules.specs.Types.{Machine, Zone, Posture, Call, Refusal, NotParty, Held, AlreadyMine, Shut, NotOwner}
use Rattle.cell_rules.specs.Types.{PlateInZone, NoPlate, PlaceFull, WrongWay, Jump, NotAtWork, NoPose, Worn, InUse}
use Rattle.cell_rules.specs.Types.{Stopped, NotStopped, Done, Shown, Refused, Event, Reply, Settled, Busy}
use Rattle.cell_sensors.specs.declared.sense.SensorFault.{SensorFault}
use Rattle.cell_rules.specs.Names.{ModelState, IsSound, after, IsLegal, Holds, posture_by_events, own_events}
use Rattle.cell_rules.specs.Names.{heard_after, IsSameFor}
use Rattle.cell_rules.specs.declared.heard.LineFault.{LineFault}
use Rattle.cell_rules.specs.declared.heard.Heard.{Heard}
use Rattle.cell_rules.specs.declared.heard.LineFault.TheVariants as line
use Rattle.cell_control.specs.declared.fault.CtlFault.{CtlFault}
use Rattle.cell_control.specs.declared.fault.CtlFault.TheVariants as fault
use Rattle.cell_control.specs.declared.controller.Controller.{Controller}
use Rattle.cell_control.specs.Controllers.{GoesOnBy}
use Rattle.cell_control.specs.Demands.{HoldsIn}
use Rattle.cell_control.specs.Steps.{Steps, step_after_reply, InStepAfter, IsReached, GoesOn}
use Rattle.cell_control.specs.Turns.{Turned, Turns, HearsTurn}
use Rattle.cell_control.specs.Row.{waits_on}
use Rattle.cell_control.specs.Wiring.{GoesOnWired, wiring_of}

-- the sensors say nothing but this
abbrev pub Says : {S Sense Reading Act : Type 0} → Steps S Sense Reading Act → Sense → Result Reading SensorFault
    → Type 0
Says {Reading = Reading} t s said = (other : Result Reading SensorFault) → t.senses s other → other ≡ said

-- the step leads to `next` with the motors off; or the controller has stopped with a fault, and its step stays
abbrev pub leads_to : {S Sense Reading Act : Type 0} → Steps S Sense Reading Act → S → S → Turned S Act
leads_to t p next = record { result = Ok (t.rest p); progress = next; stopped = None }

abbrev pub stops_with : {S Act : Type 0} → S → CtlFault → Turned S Act
stops_with p f = record { result = Err f; progress = p; stopped = Some f }

-- ---- what comes back from a call of a controller that runs

abbrev pub TurnAnswered : {S Sense Reading Act : Type 0} → Steps S Sense Reading Act → S → Sense
    → Result Reply LineFault → Turned S Act → Type 0
TurnAnswered t p s answered w = Turns t ⊥ (λ call r. r ≡ answered) None p s w

-- a refusal on which the step doesn't stay stops it with this fault
abbrev pub Stops : {S Sense Reading Act : Type 0} → Steps S Sense Reading Act → S → Sense → Turned S Act → Refusal
    → CtlFault → Type 0
Stops t p s w r f = (stamp : ℕ) → waits_on (t.row p).waits r ≡ false
    → TurnAnswered t p s (Ok (Settled (Refused r) stamp)) w → w ≡ stops_with p f

pub record AnswerRows {S Sense Reading Act : Type 0} (t : Steps S Sense Reading Act) (p : S) (s : Sense)
    (w : Turned S Act) : Type 0 where
  pub done : (stamp : ℕ) → TurnAnswered t p s (Ok (Settled Done stamp)) w → w ≡ leads_to t p (t.row p).next
  pub shown : (owner : Option Machine) (flag : Bool) (posture : Posture) (stamp : ℕ)
      → TurnAnswered t p s (Ok (Settled (Shown owner flag posture) stamp)) w
      → w ≡ leads_to t p (t.after_inquiry p owner flag posture)
  pub waits : (r : Refusal) (stamp : ℕ) → waits_on (t.row p).waits r ≡ true
      → TurnAnswered t p s (Ok (Settled (Refused r) stamp)) w → w ≡ leads_to t p p
  pub while_stopped : (stamp : ℕ) → TurnAnswered t p s (Ok (Settled (Refused Stopped) stamp)) w → w ≡ leads_to t p p
  pub busy : (lost stamp : ℕ) → TurnAnswered t p s (Ok (Busy lost stamp)) w → w ≡ leads_to t p p
  pub not_party : Stops t p s w NotParty (fault.Refused NotParty)
  pub held : (m : Machine) → Stops t p s w (Held m) (fault.Refused (Held m))
  pub already_mine : Stops t p s w AlreadyMine (fault.Refused AlreadyMine)
  pub shut : (posture : Posture) → Stops t p s w (Shut posture) (fault.Refused (Shut posture))
  pub not_owner : (owner : Option Machine) → Stops t p s w (NotOwner owner) (fault.Refused (NotOwner owner))
  pub plate_in_zone : (zone : Zone) → Stops t p s w (PlateInZone zone) (fault.Refused (PlateInZone zone))
  pub no_plate : Stops t p s w NoPlate (fault.Refused NoPlate)
  pub place_full : Stops t p s w PlaceFull (fault.Refused PlaceFull)
  pub wrong_way : Stops t p s w WrongWay (fault.Refused WrongWay)
  pub jump : Stops t p s w Jump (fault.Refused Jump)
  pub not_at_work : Stops t p s w NotAtWork (fault.Refused NotAtWork)
  pub no_pose : Stops t p s w NoPose (fault.Refused NoPose)
  pub in_use : Stops t p s w InUse (fault.Refused InUse)
  pub not_stopped : Stops t p s w NotStopped (fault.Refused NotStopped)
  pub worn : Stops t p s w Worn fault.Worn
  pub out_of_memory : TurnAnswered t p s (Err line.Memory) w → w ≡ stops_with p fault.Memory

-- ---- who asks, and who doesn't

-- a turn that leaves the line as it is; and one that asks a call, with any reply
abbrev pub AsksNothing : {S Sense Reading Act : Type 0} → Steps S Sense Reading Act → Option CtlFault → S → Sense
    → Turned S Act → Type 0
AsksNothing t stopped p s w = Turns t ⊤ (λ call r. ⊥) stopped p s w

abbrev pub Asks : {S Sense Reading Act : Type 0} → Steps S Sense Reading Act → Option CtlFault → S → Sense → Call
    → Turned S Act → Type 0
Asks t stopped p s call w = Turns t ⊥ (λ other r. other ≡ call) stopped p s w

pub record SilentRows {S Sense Reading Act : Type 0} (t : Steps S Sense Reading Act) (p : S) (s : Sense)
    (w : Turned S Act) : Type 0 where
  -- a controller that has stopped, with any fault
  pub stopped : (f : CtlFault) → AsksNothing t (Some f) p s w
      → w ≡ record { result = Err fault.Stopped; progress = p; stopped = Some f }
  pub stopped_asks_nothing : (f : CtlFault) (call : Call) → ¬ Asks t (Some f) p s call w
  -- one whose sensors can't be used
  pub sensor : (f : SensorFault) → Says t s (Err f) → AsksNothing t None p s w → w ≡ stops_with p (fault.Sensor f)
  pub sensor_asks_nothing : (f : SensorFault) (call : Call) → Says t s (Err f) → ¬ Asks t None p s call w
  -- one that drives
  pub drives : (reading : Reading) (act : Act) → (t.row p).call ≡ None → Says t s (Ok reading)
      → ((other : Act) → t.drives p reading other → other ≡ act)
      → AsksNothing t None p s w → w ≡ record {
        result = Ok act;
        progress = t.after_drive p reading act;
        stopped = None;
      }
  pub drive_asks_nothing : (call : Call) → (t.row p).call ≡ None → ¬ Asks t None p s call w
  -- one that asks: it asks its own call
  pub asks : (reading : Reading) (call : Call) → (t.row p).call ≡ Some call → Says t s (Ok reading)
      → ¬ AsksNothing t None p s w
  pub asks_its_call : (call other : Call) → (t.row p).call ≡ Some call → Asks t None p s other w → other ≡ call

-- what the line hears of a turn
pub record HeardRows {S Sense Reading Act : Type 0} (t : Steps S Sense Reading Act) (p : S) (s : Sense)
    (before now : Heard) : Type 0 where
  pub stopped : (f : CtlFault) → HearsTurn t (Some f) p s before now → now ≡ before
  pub sensor : (f : SensorFault) → Says t s (Err f) → HearsTurn t None p s before now → now ≡ before
  pub drives : (t.row p).call ≡ None → HearsTurn t None p s before now → now ≡ before
  pub asks_once : (reading : Reading) (call : Call) → (t.row p).call ≡ Some call → Says t s (Ok reading)
      → HearsTurn t None p s before now → (r : Result Reply LineFault) × (now ≡ heard_after before call r)

-- a machine's progress by its events: one step for each event, in a program of which every step asks
abbrev pub AsksAlways : {S Sense Reading Act : Type 0} → Steps S Sense Reading Act → Type 0
AsksAlways {S = S} t = (q : S) → (call : Call) × ((t.row q).call ≡ Some call)

-- the step that it begins with is the first, or was carried over from an interlock before this one
abbrev pub IsInStep : {S Sense Reading Act : Type 0} → Steps S Sense Reading Act → S → ModelState → Type 0
IsInStep t first opening = (renewals : ℕ) × InStepAfter t renewals first opening

pub record ReachedRows {S Sense Reading Act : Type 0} (t : Steps S Sense Reading Act) (p : S) (opening : ModelState)
    (seen : List Event) : Type 0 where
  pub at_first : IsReached t opening [] (t.start opening)
  pub by_none : AsksAlways t → own_events seen t.machine ≡ [] → IsReached t opening seen p → IsInStep t p opening
  pub by_one : (e : Event) → AsksAlways t → own_events seen t.machine ≡ e ∷ [] → IsReached t opening seen p
      → (first : S) × IsInStep t first opening × ((t.row first).call ≡ Some e.call)
      × (step_after_reply t first (Ok (Settled e.answer 0)) ≡ Ok p)
  pub carried_over : (opened : ModelState) → IsSound opening → IsLegal opening seen
      → IsSameFor t.machine (after opening seen) opened → IsReached t opening seen p → IsReached t opened [] p

-- a machine that has reached its step and goes on has reached the next one, alone, by its controller and on its line
abbrev pub controller_at : {S Sense Reading Act : Type 0} → Steps S Sense Reading Act → S
    → Controller ℕ S Sense Reading Act
controller_at t p = record { program = 0; progress = p; stopped = None }

pub record GoingRows {S Sense Reading Act : Type 0} (t : Steps S Sense Reading Act) (p q : S) (opening : ModelState)
    (before now : List Event) : Type 0 where
  pub alone : GoesOn t before p now q → IsReached t opening before p → IsReached t opening now q
  pub by_controller : GoesOnBy {P = ℕ} (λ program. t) (controller_at t p) before (controller_at t q) now
      → IsReached t opening before p → IsReached t opening now q
  pub on_its_line : GoesOnWired {P = ℕ} t (λ seen. seen) (wiring_of 0 p None before) (wiring_of 0 q None now)
      → IsReached t opening before p → IsReached t opening now q

-- all rows
pub record TurnRows {S Sense Reading Act : Type 0} (t : Steps S Sense Reading Act) (p : S) (s : Sense) : Type 0 where
  pub answered : (w : Turned S Act) → AnswerRows t p s w
  pub silent : (w : Turned S Act) → SilentRows t p s w
  pub heard : (before now : Heard) → HeardRows t p s before now
  pub reached : (opening : ModelState) (seen : List Event) → ReachedRows t p opening seen
  pub goes_on : (next : S) (opening : ModelState) (before now : List Event) → GoingRows t p next opening before now

-- ---- what a motor that enters a zone demands

pub record ZoneDemandRows (m : Machine) (opening : ModelState) (seen : List Event) (zone : Zone) (posture : Posture)
    : Type 0 where
  pub holds : HoldsIn m opening seen (Some (zone, posture)) → Holds opening seen m zone
  pub stands : HoldsIn m opening seen (Some (zone, posture)) → posture_by_events opening seen zone ≡ posture
  pub no_more : Holds opening seen m zone → posture_by_events opening seen zone ≡ posture
      → HoldsIn m opening seen (Some (zone, posture))
  pub nothing_without_zone : HoldsIn m opening seen None
