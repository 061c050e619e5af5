-- The order of each call's refusals, by literal states of the press: where two causes are there, the answer is the one
-- that comes first. Each record goes down the order of its call; causes that are never there together have no row.
use Rattle.std.specs.Prelude.{◌≡◌, ℕ, Bool, true, false, ◌∷◌, replicate, Option, Some, None, IsTrue}
use Rattle.plan_types.specs.declared.posture.Posture.{Posture}
use Rattle.plan_types.specs.declared.posture.Posture.TheVariants.{Closed, Moving, OpenIn, OpenOut}
use Rattle.plan_types.specs.declared.call.Call.{Call}
use Rattle.plan_types.specs.declared.call.Call.TheVariants.{Claim, Give, Yield, Take, Release, SetPose, Stop, Resume}
use Rattle.plan_types.specs.declared.answer.Refusal.{Refusal}
use Rattle.plan_types.specs.declared.answer.Refusal.TheVariants.{NotParty, Held, AlreadyMine, Shut, NotOwner}
use Rattle.plan_types.specs.declared.answer.Refusal.TheVariants.{PlateInZone, NoPlate, PlaceFull, WrongWay, Jump}
use Rattle.plan_types.specs.declared.answer.Refusal.TheVariants.{NoPose, Worn, Stopped, NotStopped}
use Rattle.plan_types.specs.declared.answer.Answer.TheVariants.{Refused}
use Rattle.plan_types.specs.Table.{watch}
use Rattle.plan_types.specs.Examples.{press_table}
use Rattle.plan_rules.specs.declared.state.ZoneState.{ZoneState}
use Rattle.plan_rules.specs.declared.state.State.{State}
use Rattle.plan_rules.specs.State.{free_zone}
use Rattle.plan_rules.specs.Reply.{reply}
use Rattle.plan_rules.specs.Causes.{is_cause}

-- in a state of the press a call is refused for one cause, though a second one is there too
abbrev pub ComesFirst : State → ℕ → Call → Refusal → Refusal → Type 0
ComesFirst s m c first second =
    (reply press_table s m c ≡ Refused first) × IsTrue (is_cause press_table s m c second)

abbrev pub interior : Option ℕ → Posture → Bool → ZoneState
interior owner posture flag = record { owner = owner; flag = flag; posture = posture }

-- a state of the press: its interior, and whether the loader, 0, and the press, 1, have a plate
abbrev pub press_state : ZoneState → Bool → Bool → State
press_state zone loader press = record {
  zones = zone ∷ replicate 9 free_zone;
  full = loader ∷ press ∷ replicate 14 false;
  stamp = 7;
  stopped = false;
}

-- the interior is free
abbrev pub free : State
free = press_state (interior None Closed false) true false

-- the press, which is full, moves; or is open outward
abbrev pub moving : State
moving = press_state (interior (Some 1) Moving false) true true

abbrev pub open_outward : State
open_outward = press_state (interior (Some 1) OpenOut false) false true

-- the interior is open inward and the loader's, but the press is full; the loader has a plate, or none
abbrev pub owned_by_loader : Bool → State
owned_by_loader plate = press_state (interior (Some 0) OpenIn false) plate true

-- a plate has been given to the press; or to the loader
abbrev pub given : State
given = press_state (interior (Some 1) OpenIn true) false false

abbrev pub given_back : State
given_back = press_state (interior (Some 0) OpenOut true) false false

-- the same state, but stopped; or at the last stamp
abbrev pub with_stop : State → State
with_stop s = record s { stopped = true }

abbrev pub with_last_stamp : State → State
with_last_stamp s = record s { stamp = 1048575 }

pub record ClaimOrder : Type 0 where
  pub party : ComesFirst (with_stop free) watch (Claim 0) NotParty Stopped
  pub stopped : ComesFirst (with_stop moving) 1 (Claim 0) Stopped AlreadyMine
  pub stopped_too : ComesFirst (with_stop moving) 0 (Claim 0) Stopped (Held 1)
  pub mine : ComesFirst (with_last_stamp moving) 1 (Claim 0) AlreadyMine Worn
  pub held : ComesFirst moving 0 (Claim 0) (Held 1) (Shut Moving)
  pub shut : ComesFirst (with_last_stamp free) 0 (Claim 0) (Shut Closed) Worn

pub record GiveOrder : Type 0 where
  pub party : ComesFirst (with_stop free) watch (Give 0) NotParty Stopped
  pub stopped : ComesFirst (with_stop free) 0 (Give 0) Stopped (NotOwner None)
  pub owner : ComesFirst given 0 (Give 0) (NotOwner (Some 1)) (PlateInZone 0)
  pub owner_too : ComesFirst given 0 (Give 0) (NotOwner (Some 1)) NoPlate
  pub plate : ComesFirst given 1 (Give 0) (PlateInZone 0) WrongWay
  pub way : ComesFirst (with_last_stamp moving) 1 (Give 0) WrongWay Worn
  pub no_plate : ComesFirst (owned_by_loader false) 0 (Give 0) NoPlate PlaceFull
  pub full : ComesFirst (with_last_stamp (owned_by_loader true)) 0 (Give 0) PlaceFull Worn

pub record YieldOrder : Type 0 where
  pub party : ComesFirst free watch (Yield 0) NotParty (NotOwner None)
  pub owner : ComesFirst given 0 (Yield 0) (NotOwner (Some 1)) (PlateInZone 0)
  pub owner_too : ComesFirst moving 0 (Yield 0) (NotOwner (Some 1)) (Shut Moving)
  pub plate : ComesFirst (with_last_stamp given) 1 (Yield 0) (PlateInZone 0) Worn
  pub shut : ComesFirst (with_last_stamp moving) 1 (Yield 0) (Shut Moving) Worn

pub record TakeOrder : Type 0 where
  pub party : ComesFirst free watch (Take 0) NotParty (NotOwner None)
  pub owner : ComesFirst free 0 (Take 0) (NotOwner None) NoPlate
  pub no_plate : ComesFirst (with_last_stamp moving) 1 (Take 0) NoPlate Worn

pub record ReleaseOrder : Type 0 where
  pub party : ComesFirst free watch (Release 0) NotParty (NotOwner None)
  pub owner : ComesFirst given 0 (Release 0) (NotOwner (Some 1)) (PlateInZone 0)
  pub owner_too : ComesFirst moving 0 (Release 0) (NotOwner (Some 1)) (Shut Moving)
  pub plate : ComesFirst (with_last_stamp given) 1 (Release 0) (PlateInZone 0) Worn
  pub shut : ComesFirst (with_last_stamp moving) 1 (Release 0) (Shut Moving) Worn

pub record PoseOrder : Type 0 where
  pub own : ComesFirst (with_stop free) 0 (SetPose 3) NoPose Stopped
  pub stopped : ComesFirst (with_stop free) 1 (SetPose 3) Stopped (NotOwner None)
  pub owner : ComesFirst given_back 1 (SetPose 3) (NotOwner (Some 0)) (PlateInZone 0)
  pub plate : ComesFirst given 1 (SetPose 2) (PlateInZone 0) Jump
  pub jump : ComesFirst open_outward 1 (SetPose 0) Jump PlaceFull
  pub full : ComesFirst (with_last_stamp moving) 1 (SetPose 0) PlaceFull Worn

pub record StopOrder : Type 0 where
  pub party : ComesFirst (with_stop free) 1 Stop NotParty Stopped
  pub party_worn : ComesFirst (with_last_stamp free) 1 Stop NotParty Worn
  pub stopped : ComesFirst (with_last_stamp (with_stop free)) watch Stop Stopped Worn

pub record ResumeOrder : Type 0 where
  pub party : ComesFirst free 1 Resume NotParty NotStopped
  pub not_stopped : ComesFirst (with_last_stamp free) watch Resume NotStopped Worn

pub record OrdersAreMet : Type 0 where
  pub claim : ClaimOrder
  pub give : GiveOrder
  pub yield : YieldOrder
  pub take : TakeOrder
  pub release : ReleaseOrder
  pub pose : PoseOrder
  pub stop : StopOrder
  pub resume : ResumeOrder
