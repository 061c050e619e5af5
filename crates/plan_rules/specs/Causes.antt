-- What each refusal says of the state and of the call, and the order in which a call looks for its refusals. These
-- tables are written out on their own: they don't use `reply` or its conditions.
use Rattle.std.specs.Prelude.{ℕ, Bool, true, false, ◌&&◌, ◌||◌, not, nat_eq, nat_lt, List, [], ◌∷◌, Option, Some}
use Rattle.std.specs.Prelude.{None}
use Rattle.std.specs.Option.{option_eq}
use Rattle.std.specs.Bool.{then_some}
use Rattle.plan_types.specs.declared.posture.Posture.{Posture}
use Rattle.plan_types.specs.declared.posture.Posture.TheVariants.{Closed, Moving, OpenIn, OpenOut}
use Rattle.plan_types.specs.declared.table.Transfer.{Transfer}
use Rattle.plan_types.specs.declared.call.Call.{Call}
use Rattle.plan_types.specs.declared.call.Call.TheVariants.{Claim, Give, Yield, Take, Release, SetPose, Inquire, Stop}
use Rattle.plan_types.specs.declared.call.Call.TheVariants.{Resume, Advance}
use Rattle.plan_types.specs.declared.answer.Refusal.{Refusal}
use Rattle.plan_types.specs.declared.answer.Refusal.TheVariants.{NotParty, Held, AlreadyMine, Shut, NotOwner}
use Rattle.plan_types.specs.declared.answer.Refusal.TheVariants.{PlateInZone, NoPlate, PlaceFull, WrongWay, Jump}
use Rattle.plan_types.specs.declared.answer.Refusal.TheVariants.{NoPose, Worn, Stopped, NotStopped}
use Rattle.plan_types.specs.Same.{same_posture}
use Rattle.plan_types.specs.Below.{first_below, any_below}
use Rattle.plan_types.specs.Table.{PlanTable, zone_count, host_of, guest_of, is_party, has_pose, pose_row, posture_of}
use Rattle.plan_types.specs.Table.{is_moving_pose, transfer_of, watch, place_count, keeper_of, is_source, is_sink}
use Rattle.plan_types.specs.Table.{space_of}
use Rattle.plan_rules.specs.declared.state.State.{State}
use Rattle.plan_rules.specs.State.{zone_at, owner_of, posture_at, is_full, plates_for}

-- a number for each kind of refusal; 11 and 16 are kinds that plans don't have
abbrev pub number_of : Refusal → ℕ
number_of NotParty = 1
number_of (Held _) = 2
number_of AlreadyMine = 3
number_of (Shut _) = 4
number_of (NotOwner _) = 5
number_of (PlateInZone _) = 6
number_of NoPlate = 7
number_of PlaceFull = 8
number_of WrongWay = 9
number_of Jump = 10
number_of NoPose = 12
number_of Worn = 13
number_of Stopped = 14
number_of NotStopped = 15

-- the orders, as lists of these numbers
abbrev pub order_of : Call → List ℕ
order_of (Claim _) = 1 ∷ 14 ∷ 3 ∷ 2 ∷ 4 ∷ 13 ∷ []
order_of (Give _) = 1 ∷ 14 ∷ 5 ∷ 6 ∷ 9 ∷ 7 ∷ 8 ∷ 13 ∷ []
order_of (Yield _) = 1 ∷ 5 ∷ 6 ∷ 4 ∷ 13 ∷ []
order_of (Take _) = 1 ∷ 5 ∷ 7 ∷ 13 ∷ []
order_of (Release _) = 1 ∷ 5 ∷ 6 ∷ 4 ∷ 13 ∷ []
order_of (SetPose _) = 12 ∷ 14 ∷ 5 ∷ 6 ∷ 10 ∷ 8 ∷ 13 ∷ []
order_of (Inquire _) = 1 ∷ []
order_of Stop = 1 ∷ 14 ∷ 13 ∷ []
order_of Resume = 1 ∷ 15 ∷ 13 ∷ []
order_of (Advance _) = 1 ∷ 14 ∷ 8 ∷ 7 ∷ 13 ∷ []

-- what the state says of a zone
abbrev pub is_owned_as : State → ℕ → Option ℕ → Bool
is_owned_as s z o = option_eq nat_eq (owner_of s z) o

abbrev pub is_owner : State → ℕ → ℕ → Bool
is_owner s z m = is_owned_as s z (Some m)

abbrev pub has_plate : State → ℕ → Bool
has_plate s z = (zone_at s z).flag

-- a plate is in the zone, or in another of its space
abbrev pub is_laden : PlanTable → State → ℕ → Bool
is_laden t s z = any_below (λ y. nat_eq (space_of t y) (space_of t z) && has_plate s y) (zone_count t)

abbrev pub is_in : State → ℕ → Posture → Bool
is_in s z q = same_posture (posture_at s z) q

abbrev pub is_shut : Posture → Bool
is_shut Closed = true
is_shut Moving = true
is_shut OpenIn = false
is_shut OpenOut = false

-- the stamp is the last one
abbrev pub is_worn : State → Bool
is_worn s = nat_eq s.stamp 1048575

-- the zone has this owner, or none, and the owner isn't the machine
abbrev pub is_anothers : State → ℕ → ℕ → Option ℕ → Bool
is_anothers s m z o = not (is_owner s z m) && is_owned_as s z o

abbrev pub on_way : Option Transfer → (Transfer → Bool) → Bool
on_way None test = false
on_way (Some way) test = test way

-- the way of the plate that the machine gives in the zone passes a test
abbrev pub on_gift : PlanTable → State → ℕ → ℕ → (Transfer → Bool) → Bool
on_gift t s m z test = on_way (transfer_of t z (posture_at s z)) (λ way. nat_eq way.giver m && test way)

-- a place has a plate, or has one coming
abbrev pub is_filled : PlanTable → State → ℕ → Bool
is_filled t s p = nat_lt 0 (plates_for t s p)

abbrev pub claim_cause : PlanTable → State → ℕ → ℕ → Refusal → Bool
claim_cause t s m z NotParty = not (is_party t m z)
claim_cause t s m z AlreadyMine = is_owner s z m
claim_cause t s m z (Held o) = is_owner s z o && not (nat_eq o m)
claim_cause t s m z (Shut q) = nat_eq m (guest_of t z) && is_in s z q && is_shut q
claim_cause t s m z Worn = is_worn s
claim_cause t s m z Stopped = s.stopped
claim_cause t s m z _ = false

abbrev pub give_cause : PlanTable → State → ℕ → ℕ → Refusal → Bool
give_cause t s m z NotParty = not (is_party t m z)
give_cause t s m z (NotOwner o) = is_anothers s m z o
give_cause t s m z (PlateInZone y) = nat_eq y z && is_laden t s z
give_cause t s m z WrongWay = not (on_gift t s m z (λ way. true))
give_cause t s m z NoPlate = on_gift t s m z (λ way. not (is_full s way.from))
give_cause t s m z PlaceFull = on_gift t s m z (λ way. is_filled t s way.to)
give_cause t s m z Worn = is_worn s
give_cause t s m z Stopped = s.stopped
give_cause t s m z _ = false

abbrev pub yield_cause : PlanTable → State → ℕ → ℕ → Refusal → Bool
yield_cause t s m z NotParty = not (is_party t m z)
yield_cause t s m z (NotOwner o) = is_anothers s m z o
yield_cause t s m z (PlateInZone y) = nat_eq y z && is_laden t s z
yield_cause t s m z (Shut q) = is_in s z q && is_shut q
yield_cause t s m z Worn = is_worn s
yield_cause t s m z _ = false

abbrev pub take_cause : PlanTable → State → ℕ → ℕ → Refusal → Bool
take_cause t s m z NotParty = not (is_party t m z)
take_cause t s m z (NotOwner o) = is_anothers s m z o
take_cause t s m z NoPlate = not (has_plate s z)
take_cause t s m z Worn = is_worn s
take_cause t s m z _ = false

abbrev pub release_cause : PlanTable → State → ℕ → ℕ → Refusal → Bool
release_cause t s m z NotParty = not (is_party t m z)
release_cause t s m z (NotOwner o) = is_anothers s m z o
release_cause t s m z (PlateInZone y) = nat_eq y z && is_laden t s z
release_cause t s m z (Shut Moving) = is_in s z Moving
release_cause t s m z Worn = is_worn s
release_cause t s m z _ = false

-- a pose gives a zone another posture than it has
abbrev pub is_other : Option Posture → Posture → Bool
is_other None now = false
is_other (Some q) now = not (same_posture q now)

-- the zones that a pose is about: of those that the machine hosts all if the pose moves, else those that get another
-- posture
abbrev pub is_at_stake : PlanTable → State → ℕ → ℕ → ℕ → Bool
is_at_stake t s m p z =
    nat_eq (host_of t z) m && (is_moving_pose t p || is_other (posture_of t p z) (posture_at s z))

-- the lowest zone that passes a test, and a test of a zone that was found
abbrev pub lowest : PlanTable → (ℕ → Bool) → Option ℕ
lowest t test = first_below (λ z. then_some (test z) z) (zone_count t)

abbrev pub on_zone : Option ℕ → (ℕ → Bool) → Bool
on_zone None test = false
on_zone (Some z) test = test z

-- a pose opens a zone inward that wasn't, and the place that a plate would come to is filled
abbrev pub is_opened : Option Posture → Posture → Bool
is_opened given now = option_eq same_posture given (Some OpenIn) && not (same_posture now OpenIn)

abbrev pub lacks_room : PlanTable → State → ℕ → ℕ → Bool
lacks_room t s p z =
    is_opened (posture_of t p z) (posture_at s z) && on_way (transfer_of t z OpenIn) (λ way. is_filled t s way.to)

abbrev pub pose_cause : PlanTable → State → ℕ → ℕ → Refusal → Bool
pose_cause t s m p NoPose = not (has_pose t m p)
pose_cause t s m p (NotOwner o) =
    on_zone (lowest t (λ z. is_at_stake t s m p z && not (is_owner s z m))) (λ z. is_owned_as s z o)
pose_cause t s m p (PlateInZone y) =
    on_zone (lowest t (λ z. is_at_stake t s m p z && is_laden t s z)) (λ z. nat_eq y z)
pose_cause t s m p Jump =
    (pose_row t p).after_moving
    && any_below (λ z. nat_eq (host_of t z) m && not (is_in s z Moving)) (zone_count t)
pose_cause t s m p PlaceFull = any_below (lacks_room t s p) (zone_count t)
pose_cause t s m p Worn = is_worn s
pose_cause t s m p Stopped = is_moving_pose t p && s.stopped
pose_cause t s m p _ = false

-- everyone may inquire about a zone of the plan
abbrev pub inquire_cause : PlanTable → ℕ → Refusal → Bool
inquire_cause t z NotParty = not (nat_lt z (zone_count t))
inquire_cause t z _ = false

-- the watch alone stops and resumes, in turn
abbrev pub stop_cause : State → ℕ → Refusal → Bool
stop_cause s m NotParty = not (nat_eq m watch)
stop_cause s m Stopped = s.stopped
stop_cause s m Worn = is_worn s
stop_cause s m _ = false

abbrev pub resume_cause : State → ℕ → Refusal → Bool
resume_cause s m NotParty = not (nat_eq m watch)
resume_cause s m NotStopped = not s.stopped
resume_cause s m Worn = is_worn s
resume_cause s m _ = false

-- the keeper of a source or of a sink asks; of a source and sink the state tells which it is now
abbrev pub is_own_end : PlanTable → ℕ → ℕ → Bool
is_own_end t m p = (nat_lt p (place_count t) && nat_eq (keeper_of t p) m) && (is_source t p || is_sink t p)

abbrev pub advance_cause : PlanTable → State → ℕ → ℕ → Refusal → Bool
advance_cause t s m p NotParty = not (is_own_end t m p)
advance_cause t s m p Stopped = s.stopped
advance_cause t s m p PlaceFull = is_source t p && (is_filled t s p && not (is_sink t p && is_full s p))
advance_cause t s m p NoPlate = not (is_source t p) && not (is_full s p)
advance_cause t s m p Worn = is_worn s
advance_cause t s m p _ = false

-- what a refusal of a call says of the state
abbrev pub is_cause : PlanTable → State → ℕ → Call → Refusal → Bool
is_cause t s m (Claim z) r = claim_cause t s m z r
is_cause t s m (Give z) r = give_cause t s m z r
is_cause t s m (Yield z) r = yield_cause t s m z r
is_cause t s m (Take z) r = take_cause t s m z r
is_cause t s m (Release z) r = release_cause t s m z r
is_cause t s m (SetPose p) r = pose_cause t s m p r
is_cause t s m (Inquire z) r = inquire_cause t z r
is_cause t s m Stop r = stop_cause s m r
is_cause t s m Resume r = resume_cause s m r
is_cause t s m (Advance p) r = advance_cause t s m p r
