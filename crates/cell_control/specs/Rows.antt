-- The forms of a program's rows, for literal steps, calls, refusals, readings and notes.
use Rattle.std.specs.Prelude.{◌≡◌, Bool, true, false, ◌||◌, List, [], ◌∷◌, Option, Some, None, Result}
use Rattle.cell_rules.specs.Types.{Machine, Zone, Posture, Call, Inquire, Refusal, Held, NotOwner, PlaceFull, Shut}
use Rattle.cell_rules.specs.Types.{Stopped}
use Rattle.cell_sensors.specs.declared.sense.SensorFault.{SensorFault}
use Rattle.cell_control.specs.Steps.{Steps, waits_out}
use Rattle.cell_control.specs.Row.{waits_on}

-- what a step may wait for: each is a refusal on which it stays
pub data Wait : Type 0 where
  UntilFree : Wait
  UntilOwner : Wait
  UntilRoom : Wait
  UntilOpen : Wait
  UntilResumed : Wait

abbrev pub is_waited_out : Wait → Refusal → Bool
is_waited_out UntilFree (Held _) = true
is_waited_out UntilOwner (NotOwner _) = true
is_waited_out UntilRoom PlaceFull = true
is_waited_out UntilOpen (Shut _) = true
is_waited_out UntilResumed Stopped = true
is_waited_out _ _ = false

abbrev pub is_among : List Wait → Refusal → Bool
is_among [] r = false
is_among (w ∷ ws) r = is_waited_out w r || is_among ws r

-- each step that asks also stays in a stopped cell
abbrev pub stays_by : List Wait → Refusal → Bool
stays_by ws r = is_among ws r || is_waited_out UntilResumed r

-- a step asks this call, stays on exactly these refusals and in a stopped cell, and leads to `next` when the call is
-- done
pub record AskRow {S Sense Reading Act : Type 0} (t : Steps S Sense Reading Act) (p : S) (call : Call)
    (waits : List Wait) (next : S) : Type 0 where
  pub asks : (t.row p).call ≡ Some call
  pub stays : (r : Refusal) → waits_out t p r ≡ stays_by waits r
  pub leads : (t.row p).next ≡ next

-- a step inquires a zone, stays only in a stopped cell, and leads on by the zone's owner, flag and posture
pub record InquiryRow {S Sense Reading Act : Type 0} (t : Steps S Sense Reading Act) (p : S) (zone : Zone)
    (next : Option Machine → Bool → Posture → S) : Type 0 where
  pub asks : (t.row p).call ≡ Some (Inquire zone)
  pub stays : (r : Refusal) → waits_out t p r ≡ stays_by [] r
  pub leads : (owner : Option Machine) (flag : Bool) (posture : Posture)
      → t.after_inquiry p owner flag posture ≡ next owner flag posture

-- a step asks nothing; by this reading it sets the actuators to `act` and nothing else, and leads to `next`
pub record DriveRow {S Sense Reading Act : Type 0} (t : Steps S Sense Reading Act) (p : S) (reading : Reading)
    (act : Act) (next : S) : Type 0 where
  pub asks_nothing : (t.row p).call ≡ None
  pub drives : t.drives p reading act
  pub drives_only : (other : Act) → t.drives p reading other → other ≡ act
  pub leads : t.after_drive p reading act ≡ next

-- the sensors say this and nothing else
pub record CheckRow {S Sense Reading Act : Type 0} (t : Steps S Sense Reading Act) (s : Sense)
    (said : Result Reading SensorFault) : Type 0 where
  pub says : t.senses s said
  pub says_only : (other : Result Reading SensorFault) → t.senses s other → other ≡ said

-- answers that can't come lead nowhere: Done to an inquiry, Shown to another call, a refusal of a step that drives
abbrev pub is_inquiry : Option Call → Bool
is_inquiry (Some (Inquire _)) = true
is_inquiry _ = false

pub record NoOtherAnswers {S Sense Reading Act : Type 0} (t : Steps S Sense Reading Act) : Type 0 where
  pub not_done : (p : S) → is_inquiry (t.row p).call ≡ true → (t.row p).next ≡ p
  pub not_shown : (p : S) (owner : Option Machine) (flag : Bool) (posture : Posture)
      → is_inquiry (t.row p).call ≡ false → t.after_inquiry p owner flag posture ≡ p
  pub not_refused : (p : S) (r : Refusal) → (t.row p).call ≡ None → waits_on (t.row p).waits r ≡ false
