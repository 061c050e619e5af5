-- For what each call but a pose is refused, in all states of all tables: exactly for what is said here. Each line says
-- what the refusal tells, and that nothing is so that the call looks for earlier.
use Rattle.std.specs.Prelude.{◌≡◌, ◌≢◌, ◌↔◌, ◌⊎◌, ℕ, ◌<◌, ◌≤◌, Bool, true, false, Option, Some, None}
use Rattle.plan_types.specs.declared.posture.Posture.{Posture}
use Rattle.plan_types.specs.declared.posture.Posture.TheVariants.{Closed, Moving}
use Rattle.plan_types.specs.declared.call.Call.TheVariants.{Claim, Give, Yield, Take, Release, Inquire, Stop, Resume}
use Rattle.plan_types.specs.declared.call.Call.TheVariants.{Advance}
use Rattle.plan_types.specs.declared.answer.Refusal.{Refusal}
use Rattle.plan_types.specs.declared.answer.Refusal.TheVariants.{NotParty, Held, AlreadyMine, Shut, NotOwner}
use Rattle.plan_types.specs.declared.answer.Refusal.TheVariants.{PlateInZone, NoPlate, PlaceFull, WrongWay}
use Rattle.plan_types.specs.declared.answer.Refusal.TheVariants.{Worn, Stopped, NotStopped}
use Rattle.plan_types.specs.declared.answer.Answer.TheVariants.{Refused}
use Rattle.plan_types.specs.Table.{PlanTable, zone_count, guest_of, is_source, is_sink}
use Rattle.plan_rules.specs.declared.state.State.{State}
use Rattle.plan_rules.specs.State.{zone_at, owner_of, posture_at, is_full, plates_for, space_has_plate}
use Rattle.plan_rules.specs.Reply.{reply}
use Rattle.plan_rules.specs.DoneLaws.{IsPartyOf, IsOpen, KeepsEnd, PlateMoves}
use Rattle.plan_rules.specs.SayLaws.{OnGift, GivesNothing}

abbrev pub HasNoStampLeft : State → Type 0
HasNoStampLeft s = 1048575 ≤ s.stamp

-- a party asks, while the plant runs
abbrev pub IsHeard : PlanTable → State → ℕ → ℕ → Type 0
IsHeard t s m z = IsPartyOf t m z × (s.stopped ≡ false)

-- a party asks about its own zone, in whose space a plate is, or none; or in which one is, or none
abbrev pub AsksOwn : PlanTable → State → ℕ → ℕ → Bool → Type 0
AsksOwn t s m z plate = IsPartyOf t m z × (owner_of s z ≡ Some m) × (space_has_plate t s z ≡ plate)

abbrev pub AsksToTake : PlanTable → State → ℕ → ℕ → Bool → Type 0
AsksToTake t s m z plate = IsPartyOf t m z × (owner_of s z ≡ Some m) × ((zone_at s z).flag ≡ plate)

-- the zone has this owner, or none, and the machine isn't it
abbrev pub IsOwnedElse : State → ℕ → ℕ → Option ℕ → Type 0
IsOwnedElse s m z o = (owner_of s z ≡ o) × (o ≢ Some m)

abbrev pub IsShut : State → ℕ → Posture → Type 0
IsShut s z q = (posture_at s z ≡ q) × ((q ≡ Closed) ⊎ (q ≡ Moving))

abbrev pub BarsClaim : PlanTable → State → ℕ → ℕ → Refusal → Type 0
BarsClaim t s m z NotParty = ¬ IsPartyOf t m z
BarsClaim t s m z Stopped = IsPartyOf t m z × (s.stopped ≡ true)
BarsClaim t s m z AlreadyMine = IsHeard t s m z × (owner_of s z ≡ Some m)
BarsClaim t s m z (Held o) = IsHeard t s m z × (owner_of s z ≡ Some o) × (o ≢ m)
BarsClaim t s m z (Shut q) = IsHeard t s m z × (owner_of s z ≡ None) × (m ≡ guest_of t z) × IsShut s z q
BarsClaim t s m z Worn =
    IsHeard t s m z × (owner_of s z ≡ None) × (m ≡ guest_of t z → IsOpen s z) × HasNoStampLeft s
BarsClaim t s m z _ = ⊥

-- the machine gives a plate, from a place that has one
abbrev pub HasPlateToGive : PlanTable → State → ℕ → ℕ → (ℕ → Type 0) → Type 0
HasPlateToGive t s m z target = OnGift t s m z (λ way. (is_full s way.from ≡ true) × target (plates_for t s way.to))

abbrev pub BarsGive : PlanTable → State → ℕ → ℕ → Refusal → Type 0
BarsGive t s m z NotParty = ¬ IsPartyOf t m z
BarsGive t s m z Stopped = IsPartyOf t m z × (s.stopped ≡ true)
BarsGive t s m z (NotOwner o) = IsHeard t s m z × IsOwnedElse s m z o
BarsGive t s m z (PlateInZone y) = (y ≡ z) × AsksOwn t s m z true × (s.stopped ≡ false)
BarsGive t s m z WrongWay = AsksOwn t s m z false × (s.stopped ≡ false) × GivesNothing t s m (Give z)
BarsGive t s m z NoPlate =
    AsksOwn t s m z false × (s.stopped ≡ false) × OnGift t s m z (λ way. is_full s way.from ≡ false)
BarsGive t s m z PlaceFull =
    AsksOwn t s m z false × (s.stopped ≡ false) × HasPlateToGive t s m z (λ plates. 0 < plates)
BarsGive t s m z Worn =
    AsksOwn t s m z false × (s.stopped ≡ false) × HasPlateToGive t s m z (λ plates. plates ≡ 0) × HasNoStampLeft s
BarsGive t s m z _ = ⊥

abbrev pub BarsYield : PlanTable → State → ℕ → ℕ → Refusal → Type 0
BarsYield t s m z NotParty = ¬ IsPartyOf t m z
BarsYield t s m z (NotOwner o) = IsPartyOf t m z × IsOwnedElse s m z o
BarsYield t s m z (PlateInZone y) = (y ≡ z) × AsksOwn t s m z true
BarsYield t s m z (Shut q) = AsksOwn t s m z false × IsShut s z q
BarsYield t s m z Worn = AsksOwn t s m z false × IsOpen s z × HasNoStampLeft s
BarsYield t s m z _ = ⊥

abbrev pub BarsTake : PlanTable → State → ℕ → ℕ → Refusal → Type 0
BarsTake t s m z NotParty = ¬ IsPartyOf t m z
BarsTake t s m z (NotOwner o) = IsPartyOf t m z × IsOwnedElse s m z o
BarsTake t s m z NoPlate = AsksToTake t s m z false
BarsTake t s m z Worn = AsksToTake t s m z true × HasNoStampLeft s
BarsTake t s m z _ = ⊥

abbrev pub BarsRelease : PlanTable → State → ℕ → ℕ → Refusal → Type 0
BarsRelease t s m z NotParty = ¬ IsPartyOf t m z
BarsRelease t s m z (NotOwner o) = IsPartyOf t m z × IsOwnedElse s m z o
BarsRelease t s m z (PlateInZone y) = (y ≡ z) × AsksOwn t s m z true
BarsRelease t s m z (Shut q) = AsksOwn t s m z false × (posture_at s z ≡ q) × (q ≡ Moving)
BarsRelease t s m z Worn = AsksOwn t s m z false × (posture_at s z ≢ Moving) × HasNoStampLeft s
BarsRelease t s m z _ = ⊥

abbrev pub BarsInquire : PlanTable → ℕ → Refusal → Type 0
BarsInquire t z NotParty = zone_count t ≤ z
BarsInquire t z _ = ⊥

-- 30 is the watch
abbrev pub BarsStop : State → ℕ → Refusal → Type 0
BarsStop s m NotParty = m ≢ 30
BarsStop s m Stopped = (m ≡ 30) × (s.stopped ≡ true)
BarsStop s m Worn = (m ≡ 30) × (s.stopped ≡ false) × HasNoStampLeft s
BarsStop s m _ = ⊥

abbrev pub BarsResume : State → ℕ → Refusal → Type 0
BarsResume s m NotParty = m ≢ 30
BarsResume s m NotStopped = (m ≡ 30) × (s.stopped ≡ false)
BarsResume s m Worn = (m ≡ 30) × (s.stopped ≡ true) × HasNoStampLeft s
BarsResume s m _ = ⊥

-- the keeper of a source or sink asks, while the plant runs
abbrev pub IsOwnEnd : PlanTable → State → ℕ → ℕ → Type 0
IsOwnEnd t s m p = KeepsEnd t m p × (s.stopped ≡ false)

abbrev pub BarsAdvance : PlanTable → State → ℕ → ℕ → Refusal → Type 0
BarsAdvance t s m p NotParty = ¬ KeepsEnd t m p
BarsAdvance t s m p Stopped = KeepsEnd t m p × (s.stopped ≡ true)
BarsAdvance t s m p PlaceFull =
    IsOwnEnd t s m p × (is_source t p ≡ true) × (0 < plates_for t s p)
    × ¬ ((is_sink t p ≡ true) × (is_full s p ≡ true))
BarsAdvance t s m p NoPlate = IsOwnEnd t s m p × (is_source t p ≡ false) × (is_full s p ≡ false)
BarsAdvance t s m p Worn = IsOwnEnd t s m p × PlateMoves t s p × HasNoStampLeft s
BarsAdvance t s m p _ = ⊥

pub record RefusedExactly (t : PlanTable) (s : State) (m z : ℕ) (r : Refusal) : Type 0 where
  pub claim : (reply t s m (Claim z) ≡ Refused r) ↔ BarsClaim t s m z r
  pub give : (reply t s m (Give z) ≡ Refused r) ↔ BarsGive t s m z r
  pub yield : (reply t s m (Yield z) ≡ Refused r) ↔ BarsYield t s m z r
  pub take : (reply t s m (Take z) ≡ Refused r) ↔ BarsTake t s m z r
  pub release : (reply t s m (Release z) ≡ Refused r) ↔ BarsRelease t s m z r
  pub inquire : (reply t s m (Inquire z) ≡ Refused r) ↔ BarsInquire t z r
  pub stop : (reply t s m Stop ≡ Refused r) ↔ BarsStop s m r
  pub resume : (reply t s m Resume ≡ Refused r) ↔ BarsResume s m r
  pub advance : (reply t s m (Advance z) ≡ Refused r) ↔ BarsAdvance t s m z r

abbrev pub CallsAreRefusedExactly : Type 0
CallsAreRefusedExactly = (t : PlanTable) (s : State) (m z : ℕ) (r : Refusal) → RefusedExactly t s m z r
