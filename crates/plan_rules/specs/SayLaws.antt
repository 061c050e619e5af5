-- What each refusal says, in all states of all tables: it is so.
use Rattle.std.specs.Prelude.{◌≡◌, ◌≢◌, ◌⊎◌, ℕ, ◌<◌, ◌≤◌, true, false, Some}
use Rattle.plan_types.specs.declared.posture.Posture.TheVariants.{Closed, Moving, OpenIn}
use Rattle.plan_types.specs.declared.table.Transfer.{Transfer}
use Rattle.plan_types.specs.declared.call.Call.{Call}
use Rattle.plan_types.specs.declared.call.Call.TheVariants.{Claim, Give, Yield, Take, Release, SetPose, Inquire, Stop}
use Rattle.plan_types.specs.declared.call.Call.TheVariants.{Resume, Advance}
use Rattle.plan_types.specs.declared.answer.Refusal.{Refusal}
use Rattle.plan_types.specs.declared.answer.Refusal.TheVariants.{NotParty, Held, AlreadyMine, Shut, NotOwner}
use Rattle.plan_types.specs.declared.answer.Refusal.TheVariants.{PlateInZone, NoPlate, PlaceFull, WrongWay, Jump}
use Rattle.plan_types.specs.declared.answer.Refusal.TheVariants.{NoPose, Worn, Stopped, NotStopped}
use Rattle.plan_types.specs.declared.answer.Answer.TheVariants.{Refused}
use Rattle.plan_types.specs.Table.{PlanTable, zone_count, pose_count, host_of, machine_of, pose_row, posture_of}
use Rattle.plan_types.specs.Table.{transfer_of, is_source, is_sink}
use Rattle.plan_rules.specs.declared.state.State.{State}
use Rattle.plan_rules.specs.State.{zone_at, owner_of, posture_at, is_full, plates_for, space_has_plate}
use Rattle.plan_rules.specs.Reply.{reply}
use Rattle.plan_rules.specs.DoneLaws.{IsPartyOf, KeepsEnd}

-- the zones that a call is about: its own; of a pose those that the machine hosts
abbrev pub IsAbout : PlanTable → ℕ → Call → ℕ → Type 0
IsAbout t m (Claim z) y = y ≡ z
IsAbout t m (Give z) y = y ≡ z
IsAbout t m (Yield z) y = y ≡ z
IsAbout t m (Take z) y = y ≡ z
IsAbout t m (Release z) y = y ≡ z
IsAbout t m (SetPose p) y = (y < zone_count t) × (host_of t y ≡ m)
IsAbout t m _ y = ⊥

-- this holds of one of these zones
abbrev pub OfSome : PlanTable → ℕ → Call → (ℕ → Type 0) → Type 0
OfSome t m c holds = (y : ℕ) × IsAbout t m c y × holds y

-- the caller is no party of the zone, or not the watch, or keeps no such source or sink; or the zone asked about isn't
-- in the plan
abbrev pub HasNoPart : PlanTable → ℕ → Call → Type 0
HasNoPart t m (Inquire z) = zone_count t ≤ z
HasNoPart t m Stop = m ≢ 30
HasNoPart t m Resume = m ≢ 30
HasNoPart t m (Advance p) = ¬ KeepsEnd t m p
HasNoPart t m c = OfSome t m c (λ z. ¬ IsPartyOf t m z)

-- the way of the machine's plate through a zone passes a test
abbrev pub OnGift : PlanTable → State → ℕ → ℕ → (Transfer → Type 0) → Type 0
OnGift t s m z holds =
    (way : Transfer) × (transfer_of t z (posture_at s z) ≡ Some way) × (way.giver ≡ m) × holds way

-- there is no plate to give, or to take
abbrev pub LacksPlate : PlanTable → State → ℕ → Call → Type 0
LacksPlate t s m (Give z) = OnGift t s m z (λ way. is_full s way.from ≡ false)
LacksPlate t s m (Take z) = (zone_at s z).flag ≡ false
LacksPlate t s m (Advance p) = (is_source t p ≡ false) × (is_full s p ≡ false)
LacksPlate t s m _ = ⊥

-- a plate would come to a place that has one, or has one coming
abbrev pub LacksRoom : PlanTable → State → ℕ → Call → Type 0
LacksRoom t s m (Give z) = OnGift t s m z (λ way. 0 < plates_for t s way.to)
LacksRoom t s m (SetPose p) =
    (z : ℕ) × (z < zone_count t) × (posture_of t p z ≡ Some OpenIn) × (posture_at s z ≢ OpenIn)
    × (way : Transfer) × (transfer_of t z OpenIn ≡ Some way) × (0 < plates_for t s way.to)
LacksRoom t s m (Advance p) =
    (is_source t p ≡ true) × (0 < plates_for t s p) × ¬ ((is_sink t p ≡ true) × (is_full s p ≡ true))
LacksRoom t s m _ = ⊥

abbrev pub GivesNothing : PlanTable → State → ℕ → Call → Type 0
GivesNothing t s m (Give z) =
    (way : Transfer) → transfer_of t z (posture_at s z) ≡ Some way → way.giver ≢ m
GivesNothing t s m _ = ⊥

abbrev pub Jumps : PlanTable → State → ℕ → Call → Type 0
Jumps t s m (SetPose p) =
    ((pose_row t p).after_moving ≡ true)
    × (z : ℕ) × (z < zone_count t) × (host_of t z ≡ m) × (posture_at s z ≢ Moving)
Jumps t s m _ = ⊥

abbrev pub LacksPose : PlanTable → ℕ → Call → Type 0
LacksPose t m (SetPose p) = ¬ ((p < pose_count t) × (machine_of t p ≡ m))
LacksPose t m _ = ⊥

abbrev pub Says : PlanTable → State → ℕ → Call → Refusal → Type 0
Says t s m c NotParty = HasNoPart t m c
Says t s m c (Held o) = OfSome t m c (λ z. (owner_of s z ≡ Some o) × (o ≢ m))
Says t s m c AlreadyMine = OfSome t m c (λ z. owner_of s z ≡ Some m)
Says t s m c (Shut q) = OfSome t m c (λ z. (posture_at s z ≡ q) × ((q ≡ Closed) ⊎ (q ≡ Moving)))
Says t s m c (NotOwner o) = OfSome t m c (λ z. (owner_of s z ≡ o) × (o ≢ Some m))
Says t s m c (PlateInZone z) = IsAbout t m c z × (space_has_plate t s z ≡ true)
Says t s m c NoPlate = LacksPlate t s m c
Says t s m c PlaceFull = LacksRoom t s m c
Says t s m c WrongWay = GivesNothing t s m c
Says t s m c Jump = Jumps t s m c
Says t s m c NoPose = LacksPose t m c
Says t s m c Worn = 1048575 ≤ s.stamp
Says t s m c Stopped = s.stopped ≡ true
Says t s m c NotStopped = s.stopped ≡ false

abbrev pub RefusalsAreTrue : Type 0
RefusalsAreTrue =
    (t : PlanTable) (s : State) (m : ℕ) (c : Call) (r : Refusal) → reply t s m c ≡ Refused r → Says t s m c r
