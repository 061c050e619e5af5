-- Why a call is refused: each condition by itself, and for each call the order of its conditions.
use Rattle.std.specs.Prelude.{ℕ, Bool, false, ◌||◌, ◌&&◌, not, nat_eq, nat_lt, Option, Some, None, is_none}
use Rattle.std.specs.Prelude.{unwrap_or, if◌then◌else◌}
use Rattle.std.specs.Option.{option_or}
use Rattle.std.specs.Bool.{then_some}
use Rattle.plan_types.specs.declared.posture.Posture.{Posture}
use Rattle.plan_types.specs.declared.posture.Posture.TheVariants.{Moving, OpenIn}
use Rattle.plan_types.specs.declared.table.Transfer.{Transfer}
use Rattle.plan_types.specs.declared.answer.Refusal.{Refusal}
use Rattle.plan_types.specs.declared.answer.Refusal.TheVariants.{NotParty, Held, AlreadyMine, Shut, NotOwner}
use Rattle.plan_types.specs.declared.answer.Refusal.TheVariants.{PlateInZone, NoPlate, PlaceFull, WrongWay, Jump}
use Rattle.plan_types.specs.declared.answer.Refusal.TheVariants.{NoPose, Worn, Stopped, NotStopped}
use Rattle.plan_types.specs.Same.{same_posture}
use Rattle.plan_types.specs.Below.{first_below, any_below}
use Rattle.plan_types.specs.Table.{PlanTable, zone_count, host_of, guest_of, is_party, has_pose, pose_row, posture_of}
use Rattle.plan_types.specs.Table.{is_moving_pose, transfer_of, watch, is_source, is_sink, has_end}
use Rattle.plan_rules.specs.declared.state.State.{State}
use Rattle.plan_rules.specs.State.{zone_at, owner_of, posture_at, is_full, plates_for, space_has_plate, last_stamp}
use Rattle.plan_rules.specs.Sound.{is_open, is_owned_by}

-- the first of two refusals
infixl 5 ◌or◌
abbrev pub ◌or◌ : Option Refusal → Option Refusal → Option Refusal
a or b = option_or a b

abbrev pub owns : State → ℕ → ℕ → Bool
owns s m z = is_owned_by (owner_of s z) m

-- the caller is no party of the zone
abbrev pub not_party : PlanTable → ℕ → ℕ → Option Refusal
not_party t m z = then_some (not (is_party t m z)) NotParty

-- the zone is the caller's already
abbrev pub already_mine : State → ℕ → ℕ → Option Refusal
already_mine s m z = then_some (owns s m z) AlreadyMine

-- another machine owns it
abbrev pub held_by : Option ℕ → ℕ → Option Refusal
held_by None m = None
held_by (Some o) m = then_some (not (nat_eq o m)) (Held o)

abbrev pub held : State → ℕ → ℕ → Option Refusal
held s m z = held_by (owner_of s z) m

-- a guest may not enter a zone that is not open
abbrev pub shut_to_guest : PlanTable → State → ℕ → ℕ → Option Refusal
shut_to_guest t s m z =
    then_some (nat_eq m (guest_of t z) && not (is_open (posture_at s z))) (Shut (posture_at s z))

-- the stamp is the last one
abbrev pub worn : State → Option Refusal
worn s = then_some (not (nat_lt s.stamp last_stamp)) Worn

-- the plant is stopped, or isn't
abbrev pub while_stopped : State → Option Refusal
while_stopped s = then_some s.stopped Stopped

abbrev pub not_stopped : State → Option Refusal
not_stopped s = then_some (not s.stopped) NotStopped

-- the watch alone stops and resumes
abbrev pub not_watch : ℕ → Option Refusal
not_watch m = then_some (not (nat_eq m watch)) NotParty

-- the call is about a zone that the caller doesn't own; the refusal names the owner
abbrev pub not_owner : State → ℕ → ℕ → Option Refusal
not_owner s m z = then_some (not (owns s m z)) (NotOwner (owner_of s z))

-- a plate is in the zone's space; or none is in the zone
abbrev pub plate_in_zone : PlanTable → State → ℕ → Option Refusal
plate_in_zone t s z = then_some (space_has_plate t s z) (PlateInZone z)

abbrev pub no_plate_in_zone : State → ℕ → Option Refusal
no_plate_in_zone s z = then_some (not (zone_at s z).flag) NoPlate

-- the zone moves
abbrev pub shut_while_moving : State → ℕ → Option Refusal
shut_while_moving s z = then_some (same_posture (posture_at s z) Moving) (Shut Moving)

-- a zone that is not open
abbrev pub shut : State → ℕ → Option Refusal
shut s z = then_some (not (is_open (posture_at s z))) (Shut (posture_at s z))

-- the way of a plate that a machine gives
abbrev pub given_by : ℕ → Option Transfer → Option Transfer
given_by m None = None
given_by m (Some way) = if nat_eq way.giver m then Some way else None

abbrev pub transfer_given : PlanTable → State → ℕ → ℕ → Option Transfer
transfer_given t s m z = given_by m (transfer_of t z (posture_at s z))

-- in this posture the caller gives nothing
abbrev pub wrong_way : Option Transfer → Option Refusal
wrong_way way = then_some (is_none way) WrongWay

-- the giving place is empty
abbrev pub nothing_to_give : State → Option Transfer → Option Refusal
nothing_to_give s None = None
nothing_to_give s (Some way) = then_some (not (is_full s way.from)) NoPlate

-- a place has a plate, or one is on its way to it
abbrev pub is_taken : PlanTable → State → ℕ → Bool
is_taken t s p = nat_lt 0 (plates_for t s p)

abbrev pub is_onto_taken : PlanTable → State → Option Transfer → Bool
is_onto_taken t s None = false
is_onto_taken t s (Some way) = is_taken t s way.to

abbrev pub no_room : PlanTable → State → Option Transfer → Option Refusal
no_room t s way = then_some (is_onto_taken t s way) PlaceFull

-- the first of the zones' refusals
abbrev pub first_zone : PlanTable → (ℕ → Option Refusal) → Option Refusal
first_zone t f = first_below f (zone_count t)

abbrev pub lacks_pose : PlanTable → ℕ → ℕ → Option Refusal
lacks_pose t m p = then_some (not (has_pose t m p)) NoPose

-- a pose that moves, while the plant is stopped
abbrev pub moves_while_stopped : PlanTable → State → ℕ → Option Refusal
moves_while_stopped t s p = then_some (is_moving_pose t p && s.stopped) Stopped

-- the posture of a zone after a pose
abbrev pub posture_with : PlanTable → State → ℕ → ℕ → Posture
posture_with t s p z = unwrap_or (posture_of t p z) (posture_at s z)

-- the zones that a machine must own, and free of plates, to take a pose: of those that it hosts all if the pose moves,
-- else those that get another posture
abbrev pub is_concerned : PlanTable → State → ℕ → ℕ → ℕ → Bool
is_concerned t s m p z =
    nat_eq (host_of t z) m && (is_moving_pose t p || not (same_posture (posture_with t s p z) (posture_at s z)))

abbrev pub unowned_by_pose : PlanTable → State → ℕ → ℕ → ℕ → Option Refusal
unowned_by_pose t s m p z = then_some (is_concerned t s m p z && not (owns s m z)) (NotOwner (owner_of s z))

abbrev pub plate_under_pose : PlanTable → State → ℕ → ℕ → ℕ → Option Refusal
plate_under_pose t s m p z = then_some (is_concerned t s m p z && space_has_plate t s z) (PlateInZone z)

-- a zone that the machine hosts doesn't move
abbrev pub stands_at : PlanTable → State → ℕ → ℕ → Bool
stands_at t s m z = nat_eq (host_of t z) m && not (same_posture (posture_at s z) Moving)

-- some poses can be taken only after moving
abbrev pub jump : PlanTable → State → ℕ → ℕ → Option Refusal
jump t s m p = then_some ((pose_row t p).after_moving && any_below (stands_at t s m) (zone_count t)) Jump

-- a zone would become open inward, and the place that a plate would come to has one, or has one coming
abbrev pub opens_onto_plate : PlanTable → State → ℕ → ℕ → Option Refusal
opens_onto_plate t s p z =
    then_some
    (same_posture (posture_with t s p z) OpenIn && not (same_posture (posture_at s z) OpenIn)
    && is_onto_taken t s (transfer_of t z OpenIn))
    PlaceFull

-- the caller doesn't keep the place, or the place is neither source nor sink
abbrev pub not_own_end : PlanTable → ℕ → ℕ → Option Refusal
not_own_end t m p = then_some (not (has_end t m p)) NotParty

-- a sink has a plate to go outside
abbrev pub can_go : PlanTable → State → ℕ → Bool
can_go t s p = is_sink t p && is_full s p

-- a plate would come to a source that has one, or has one coming; if the place is a sink, too, its own plate goes out
-- for it
abbrev pub source_taken : PlanTable → State → ℕ → Option Refusal
source_taken t s p = then_some (is_source t p && (is_taken t s p && not (can_go t s p))) PlaceFull

-- a sink that is no source has no plate
abbrev pub sink_empty : PlanTable → State → ℕ → Option Refusal
sink_empty t s p = then_some (not (is_source t p) && not (is_full s p)) NoPlate

-- the conditions of each call, in their order

abbrev pub claim_refusal : PlanTable → State → ℕ → ℕ → Option Refusal
claim_refusal t s m z =
    not_party t m z or while_stopped s or already_mine s m z or held s m z or shut_to_guest t s m z or worn s

abbrev pub give_refusal : PlanTable → State → ℕ → ℕ → Option Refusal
give_refusal t s m z =
    not_party t m z
    or while_stopped s
    or not_owner s m z
    or plate_in_zone t s z
    or wrong_way (transfer_given t s m z)
    or nothing_to_give s (transfer_given t s m z)
    or no_room t s (transfer_given t s m z)
    or worn s

abbrev pub yield_refusal : PlanTable → State → ℕ → ℕ → Option Refusal
yield_refusal t s m z = not_party t m z or not_owner s m z or plate_in_zone t s z or shut s z or worn s

-- the receiving place need not be tested: soundness keeps it empty while the zone's flag is set
abbrev pub take_refusal : PlanTable → State → ℕ → ℕ → Option Refusal
take_refusal t s m z = not_party t m z or not_owner s m z or no_plate_in_zone s z or worn s

abbrev pub release_refusal : PlanTable → State → ℕ → ℕ → Option Refusal
release_refusal t s m z =
    not_party t m z or not_owner s m z or plate_in_zone t s z or shut_while_moving s z or worn s

abbrev pub pose_refusal : PlanTable → State → ℕ → ℕ → Option Refusal
pose_refusal t s m p =
    lacks_pose t m p
    or moves_while_stopped t s p
    or first_zone t (unowned_by_pose t s m p)
    or first_zone t (plate_under_pose t s m p)
    or jump t s m p
    or first_zone t (opens_onto_plate t s p)
    or worn s

abbrev pub advance_refusal : PlanTable → State → ℕ → ℕ → Option Refusal
advance_refusal t s m p =
    not_own_end t m p or while_stopped s or source_taken t s p or sink_empty t s p or worn s

abbrev pub stop_refusal : State → ℕ → Option Refusal
stop_refusal s m = not_watch m or while_stopped s or worn s

abbrev pub resume_refusal : State → ℕ → Option Refusal
resume_refusal s m = not_watch m or not_stopped s or worn s

-- an inquiry about a zone that isn't there
abbrev pub inquire_refusal : PlanTable → ℕ → Option Refusal
inquire_refusal t z = then_some (not (nat_lt z (zone_count t))) NotParty
