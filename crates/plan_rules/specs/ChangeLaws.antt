-- What each Done call changes, of any zone and any place, and that it changes nothing else: on every sound state of
-- every plan.
use Rattle.std.specs.Prelude.{◌≡◌, ◌≢◌, ℕ, ◌+◌, ◌<◌, Bool, true, false, Option, Some, None}
use Rattle.plan_types.specs.declared.posture.Posture.{Posture}
use Rattle.plan_types.specs.declared.table.Transfer.{Transfer}
use Rattle.plan_types.specs.declared.call.Call.{Call}
use Rattle.plan_types.specs.declared.call.Call.TheVariants.{Claim, Give, Yield, Take, Release, SetPose, Stop, Resume}
use Rattle.plan_types.specs.declared.call.Call.TheVariants.{Advance}
use Rattle.plan_types.specs.declared.answer.Answer.TheVariants.{Done}
use Rattle.plan_types.specs.Table.{PlanTable, transfer_of, posture_of, space_of}
use Rattle.plan_types.specs.Plan.{IsPlan}
use Rattle.plan_rules.specs.declared.state.State.{State}
use Rattle.plan_rules.specs.State.{zone_at, posture_at, is_full}
use Rattle.plan_rules.specs.Sound.{IsSound}
use Rattle.plan_rules.specs.Reply.{reply, next}
use Rattle.plan_rules.specs.DoneLaws.{IsPartyOf}

-- one zone gets this owner, and a plate is in it, or none; it keeps its posture; the other zones of its space get the
-- owner, and all others stay
pub record ZoneBecomes (t : PlanTable) (s after : State) (z : ℕ) (owner : Option ℕ) (plate : Bool) : Type 0 where
  pub here : zone_at after z ≡ record { owner = owner; flag = plate; posture = posture_at s z }
  pub beside : (y : ℕ) → y ≢ z → space_of t y ≡ space_of t z → zone_at after y ≡ record (zone_at s y) { owner = owner }
  pub others : (y : ℕ) → space_of t y ≢ space_of t z → zone_at after y ≡ zone_at s y

-- one place gets a plate, or loses it; the others stay
pub record PlaceBecomes (s after : State) (place : ℕ) (full : Bool) : Type 0 where
  pub here : is_full after place ≡ full
  pub others : (q : ℕ) → q ≢ place → is_full after q ≡ is_full s q

abbrev pub ZonesStay : State → State → Type 0
ZonesStay s after = (z : ℕ) → zone_at after z ≡ zone_at s z

abbrev pub PlacesStay : State → State → Type 0
PlacesStay s after = (q : ℕ) → is_full after q ≡ is_full s q

-- a Done call counts as one; and whether the plant is stopped then
abbrev pub IsCounted : State → State → Bool → Type 0
IsCounted s after stopped = (after.stamp ≡ s.stamp + 1) × (after.stopped ≡ stopped)

-- the party of a zone that isn't the caller
abbrev pub IsOtherParty : PlanTable → ℕ → ℕ → ℕ → Type 0
IsOtherParty t m z other = IsPartyOf t other z × (other ≢ m)

-- a zone gets another owner, with no plate on its way
pub record OwnerChanges (t : PlanTable) (s after : State) (z : ℕ) (owner : Option ℕ) : Type 0 where
  pub zone : ZoneBecomes t s after z owner false
  pub places : PlacesStay s after
  pub counted : IsCounted s after s.stopped

-- a plate leaves the place where its way begins, and the zone is the other party's
pub record PlateLeaves (t : PlanTable) (s after : State) (m z : ℕ) : Type 0 where
  pub to : ℕ
  pub other : IsOtherParty t m z to
  pub zone : ZoneBecomes t s after z (Some to) true
  pub way : Transfer
  pub is : transfer_of t z (posture_at s z) ≡ Some way
  pub place : PlaceBecomes s after way.from false
  pub counted : IsCounted s after s.stopped

-- a plate comes to the place where its way ends, and the zone stays the caller's
pub record PlateComes (t : PlanTable) (s after : State) (m z : ℕ) : Type 0 where
  pub zone : ZoneBecomes t s after z (Some m) false
  pub way : Transfer
  pub is : transfer_of t z (posture_at s z) ≡ Some way
  pub place : PlaceBecomes s after way.to true
  pub counted : IsCounted s after s.stopped

-- each of the ten zones gets the posture that the pose gives it, or stays
pub record PosturesChange (t : PlanTable) (s after : State) (p : ℕ) : Type 0 where
  pub given : (z : ℕ) (q : Posture) → z < 10 → posture_of t p z ≡ Some q
      → zone_at after z ≡ record (zone_at s z) { posture = q }
  pub others : (z : ℕ) → z < 10 → posture_of t p z ≡ None → zone_at after z ≡ zone_at s z
  pub places : PlacesStay s after
  pub counted : IsCounted s after s.stopped

-- a plate comes to a place from outside, or goes from it
pub record PlaceChanges (s after : State) (p : ℕ) (full : Bool) : Type 0 where
  pub zones : ZonesStay s after
  pub place : PlaceBecomes s after p full
  pub counted : IsCounted s after s.stopped

-- the plant is stopped, or goes on
pub record StopChanges (s after : State) (stopped : Bool) : Type 0 where
  pub zones : ZonesStay s after
  pub places : PlacesStay s after
  pub counted : IsCounted s after stopped

pub record Changes (t : PlanTable) (s : State) (m z p : ℕ) : Type 0 where
  pub claim : reply t s m (Claim z) ≡ Done → OwnerChanges t s (next t s m (Claim z)) z (Some m)
  pub give : reply t s m (Give z) ≡ Done → PlateLeaves t s (next t s m (Give z)) m z
  pub yield : reply t s m (Yield z) ≡ Done
      → (to : ℕ) × IsOtherParty t m z to × OwnerChanges t s (next t s m (Yield z)) z (Some to)
  pub take : reply t s m (Take z) ≡ Done → PlateComes t s (next t s m (Take z)) m z
  pub release : reply t s m (Release z) ≡ Done → OwnerChanges t s (next t s m (Release z)) z None
  pub pose : reply t s m (SetPose p) ≡ Done → PosturesChange t s (next t s m (SetPose p)) p
  pub stop : reply t s m Stop ≡ Done → StopChanges s (next t s m Stop) true
  pub resume : reply t s m Resume ≡ Done → StopChanges s (next t s m Resume) false
  pub comes : reply t s m (Advance p) ≡ Done → is_full s p ≡ false → PlaceChanges s (next t s m (Advance p)) p true
  pub goes : reply t s m (Advance p) ≡ Done → is_full s p ≡ true → PlaceChanges s (next t s m (Advance p)) p false
  -- what isn't Done changes nothing
  pub undone : (c : Call) → reply t s m c ≢ Done → next t s m c ≡ s

abbrev pub ChangesAreThese : Type 0
ChangesAreThese = (t : PlanTable) (s : State) (m z p : ℕ) → IsPlan t → IsSound t s → Changes t s m z p
