-- Why a call is refused: each condition by itself, and for each call the order of its conditions.
use Rattle.std.specs.Prelude.{Bool, false, ◌||◌, ◌&&◌, not, nat_lt, Option, Some, None, is_none, is_some, unwrap_or}
use Rattle.std.specs.Prelude.{if◌then◌else◌}
use Rattle.std.specs.Option.{option_or}
use Rattle.std.specs.Bool.{then_some}
use Rattle.std.specs.List.{list_any, list_all}
use Rattle.cell_rules.specs.Types.{Machine, Feed, Press, Deposit, Watch, Zone, Z1, Z2, Z3, Z4, Z5, Z6, Place, FeedEnd}
use Rattle.cell_rules.specs.Types.{PressIn, PressOut, DepEnd, Transfer, Posture, Closed, Moving, OpenIn, Pose}
use Rattle.cell_rules.specs.Types.{Turning, Travelling, Running, Refusal, NotParty, Held, AlreadyMine, Shut, NotOwner}
use Rattle.cell_rules.specs.Types.{PlateInZone, NoPlate, PlaceFull, WrongWay, Jump, NotAtWork, NoPose, Worn, Stopped}
use Rattle.cell_rules.specs.Types.{NotStopped, InUse, all_zones, host_of, guest_of, transfer_of, posture_of}
use Rattle.cell_rules.specs.Types.{own_move_of, same_machine, same_posture, same_zone, same_pose}
use Rattle.cell_types.specs.declared.machine.Machine.TheVariants.{Table as TableMachine}
use Rattle.cell_rules.specs.ModelState.{ModelState, zone_at, is_full, last_stamp}
use Rattle.cell_rules.specs.Sound.{is_open, is_owned_by, is_party, is_onto_full}

-- the first of two refusals
infixl 5 ◌or◌
abbrev pub ◌or◌ : Option Refusal → Option Refusal → Option Refusal
a or b = option_or a b

abbrev pub owner_of : ModelState → Zone → Option Machine
owner_of s z = (zone_at s z).owner

abbrev pub posture_at : ModelState → Zone → Posture
posture_at s z = (zone_at s z).posture

abbrev pub owns : ModelState → Machine → Zone → Bool
owns s m z = is_owned_by (owner_of s z) m

-- the caller is no party of the zone
abbrev pub not_party : Machine → Zone → Option Refusal
not_party m z = then_some (not (is_party m z)) NotParty

-- the zone is the caller's already
abbrev pub mine_by : Option Machine → Machine → Option Refusal
mine_by owner m = then_some (is_owned_by owner m) AlreadyMine

abbrev pub already_mine : ModelState → Machine → Zone → Option Refusal
already_mine s m z = mine_by (owner_of s z) m

-- another machine owns it
abbrev pub held_by : Option Machine → Machine → Option Refusal
held_by None m = None
held_by (Some o) m = then_some (not (same_machine o m)) (Held o)

abbrev pub held : ModelState → Machine → Zone → Option Refusal
held s m z = held_by (owner_of s z) m

-- a guest may not enter a zone that is not open
abbrev pub shut_to_guest : ModelState → Machine → Zone → Option Refusal
shut_to_guest s m z = then_some (same_machine m (guest_of z) && not (is_open (posture_at s z))) (Shut (posture_at s z))

-- the stamp is the last one
abbrev pub worn : ModelState → Option Refusal
worn s = then_some (not (nat_lt s.stamp last_stamp)) Worn

-- the cell is stopped, or isn't
abbrev pub while_stopped : ModelState → Option Refusal
while_stopped s = then_some s.stopped Stopped

abbrev pub not_stopped : ModelState → Option Refusal
not_stopped s = then_some (not s.stopped) NotStopped

-- the watch alone stops and resumes
abbrev pub not_watch : Machine → Option Refusal
not_watch m = then_some (not (same_machine m Watch)) NotParty

-- the call is about a zone that the caller doesn't own; the refusal names the owner
abbrev pub not_owner : ModelState → Machine → Zone → Option Refusal
not_owner s m z = then_some (not (owns s m z)) (NotOwner (owner_of s z))

-- a plate is in the zone
abbrev pub plate_in_zone : ModelState → Zone → Option Refusal
plate_in_zone s z = then_some (zone_at s z).flag (PlateInZone z)

-- the zone moves
abbrev pub shut_while_moving : ModelState → Zone → Option Refusal
shut_while_moving s z = then_some (same_posture (posture_at s z) Moving) (Shut Moving)

-- feed would leave z1 while its belt runs with a plate at its end
abbrev pub in_use : ModelState → Machine → Zone → Option Refusal
in_use s m z =
    then_some
    (same_machine m Feed && same_zone z Z1 && same_posture (posture_at s Z6) Moving && is_full s FeedEnd)
    InUse

-- a zone that is not open
abbrev pub shut : ModelState → Zone → Option Refusal
shut s z = then_some (not (is_open (posture_at s z))) (Shut (posture_at s z))

-- the way of a plate that a machine gives
abbrev pub given_by : Machine → Option Transfer → Option Transfer
given_by m None = None
given_by m (Some row) = if same_machine row.giver m then Some row else None

abbrev pub transfer_given : ModelState → Machine → Zone → Option Transfer
transfer_given s m z = given_by m (transfer_of z (posture_at s z))

-- in this posture the caller gives in no row
abbrev pub wrong_way : Option Transfer → Option Refusal
wrong_way row = then_some (is_none row) WrongWay

-- the giving place is empty
abbrev pub nothing_to_give : ModelState → Option Transfer → Option Refusal
nothing_to_give s None = None
nothing_to_give s (Some row) = then_some (not (is_full s row.from)) NoPlate

-- the receiving place is full
abbrev pub no_room : ModelState → Option Transfer → Option Refusal
no_room s None = None
no_room s (Some row) = then_some (is_full s row.to) PlaceFull

-- no plate is in the zone
abbrev pub no_plate_in_zone : ModelState → Zone → Option Refusal
no_plate_in_zone s z = then_some (not (zone_at s z).flag) NoPlate

-- the first of the zones' refusals
abbrev pub first_zone : (Zone → Option Refusal) → Option Refusal
first_zone f = f Z1 or f Z2 or f Z3 or f Z4 or f Z5 or f Z6

-- a machine has a pose if the pose gives some zone a posture
abbrev pub has_pose : Machine → Pose → Bool
has_pose m p = list_any (λ z. is_some (posture_of m p z)) all_zones

abbrev pub lacks_pose : Machine → Pose → Option Refusal
lacks_pose m p = then_some (not (has_pose m p)) NoPose

abbrev pub is_moving_pose : Pose → Bool
is_moving_pose p = same_pose p Turning || same_pose p Travelling || same_pose p Running

-- a pose that moves, while the cell is stopped
abbrev pub moves_while_stopped : ModelState → Pose → Option Refusal
moves_while_stopped s p = then_some (is_moving_pose p && s.stopped) Stopped

-- the posture of a zone after a pose
abbrev pub posture_with : ModelState → Machine → Pose → Zone → Posture
posture_with s m p z = unwrap_or (posture_of m p z) (posture_at s z)

-- the zones that a machine must own, and free of plates, to take a pose: of those that it hosts all if the pose moves,
-- else those that get another posture
abbrev pub is_concerned : ModelState → Machine → Pose → Zone → Bool
is_concerned s m p z =
    same_machine (host_of z) m
    && (is_moving_pose p || not (same_posture (posture_with s m p z) (posture_at s z)))

abbrev pub unowned_by_pose : ModelState → Machine → Pose → Zone → Option Refusal
unowned_by_pose s m p z = then_some (is_concerned s m p z && not (owns s m z)) (NotOwner (owner_of s z))

abbrev pub plate_under_pose : ModelState → Machine → Pose → Zone → Option Refusal
plate_under_pose s m p z = then_some (is_concerned s m p z && (zone_at s z).flag) (PlateInZone z)

-- a zone moves, or another machine hosts it
abbrev pub moves_at : ModelState → Machine → Zone → Bool
moves_at s m z = not (same_machine (host_of z) m) || same_posture (posture_at s z) Moving

-- each zone that a machine hosts moves
abbrev pub all_move : ModelState → Machine → Bool
all_move s m = list_all (moves_at s m) all_zones

-- table and press take a pose only after moving
abbrev pub passes_through_moving : Machine → Bool
passes_through_moving m = same_machine m TableMachine || same_machine m Press

abbrev pub jump : ModelState → Machine → Pose → Option Refusal
jump s m p = then_some (passes_through_moving m && not (is_moving_pose p) && not (all_move s m)) Jump

-- the place that an inward plate would come to is full; the press has room for one plate only
abbrev pub is_blocked : ModelState → Zone → Bool
is_blocked s Z3 = is_full s PressIn || is_full s PressOut
is_blocked s z = is_onto_full s.full (transfer_of z OpenIn)

-- a zone becomes open inward, and wasn't
abbrev pub opens : ModelState → Machine → Pose → Zone → Bool
opens s m p z = same_posture (posture_with s m p z) OpenIn && not (same_posture (posture_at s z) OpenIn)

-- a zone opens inward onto a full place
abbrev pub opens_onto_plate : ModelState → Machine → Pose → Zone → Option Refusal
opens_onto_plate s m p z = then_some (opens s m p z && is_blocked s z) PlaceFull

-- a belt would run with a plate at its end; feed may if it owns z1
abbrev pub runs_onto_plate : ModelState → Machine → Pose → Option Refusal
runs_onto_plate s m p =
    then_some
    (same_pose p Running
    && ((same_machine m Deposit && is_full s DepEnd)
    || (same_machine m Feed && is_full s FeedEnd && not (owns s Feed Z1))))
    PlaceFull

abbrev pub has_no_work : Machine → Option Refusal
has_no_work m = then_some (is_none (own_move_of m)) NoPose

abbrev pub press_unowned : ModelState → Machine → Option Refusal
press_unowned s m = then_some (same_machine m Press && not (owns s Press Z3)) (NotOwner (owner_of s Z3))

-- a belt works while it runs, the press while it is Closed
abbrev pub is_at_work : ModelState → Machine → Bool
is_at_work s Feed = same_posture (posture_at s Z6) Moving
is_at_work s Deposit = same_posture (posture_at s Z4) Moving && same_posture (posture_at s Z5) Moving
is_at_work s Press = same_posture (posture_at s Z3) Closed
is_at_work s _ = false

abbrev pub not_at_work : ModelState → Machine → Option Refusal
not_at_work s m = then_some (not (is_at_work s m)) NotAtWork

abbrev pub nothing_to_work : ModelState → Option (Place × Place) → Option Refusal
nothing_to_work s None = None
nothing_to_work s (Some way) = then_some (not (is_full s way.0)) NoPlate

abbrev pub no_room_for_work : ModelState → Option (Place × Place) → Option Refusal
no_room_for_work s None = None
no_room_for_work s (Some way) = then_some (is_full s way.1) PlaceFull

-- the conditions of each call, in their order

abbrev pub claim_refusal : ModelState → Machine → Zone → Option Refusal
claim_refusal s m z =
    not_party m z
    or while_stopped s or already_mine s m z
    or held s m z
    or shut_to_guest s m z
    or worn s

-- a plate can't go this way
abbrev pub way_refusal : ModelState → Option Transfer → Option Refusal
way_refusal s row = wrong_way row or nothing_to_give s row or no_room s row or worn s

abbrev pub give_refusal : ModelState → Machine → Zone → Option Refusal
give_refusal s m z =
    not_party m z
    or while_stopped s or not_owner s m z
    or plate_in_zone s z
    or wrong_way (transfer_given s m z)
    or nothing_to_give s (transfer_given s m z)
    or no_room s (transfer_given s m z)
    or worn s

abbrev pub yield_refusal : ModelState → Machine → Zone → Option Refusal
yield_refusal s m z =
    not_party m z
    or not_owner s m z
    or plate_in_zone s z
    or shut s z
    or in_use s m z
    or worn s

-- the receiving place need not be tested: soundness keeps it empty while the zone's flag is set
abbrev pub take_refusal : ModelState → Machine → Zone → Option Refusal
take_refusal s m z =
    not_party m z
    or not_owner s m z
    or no_plate_in_zone s z
    or worn s

abbrev pub release_refusal : ModelState → Machine → Zone → Option Refusal
release_refusal s m z =
    not_party m z
    or not_owner s m z
    or plate_in_zone s z
    or shut_while_moving s z
    or in_use s m z
    or worn s

abbrev pub pose_refusal : ModelState → Machine → Pose → Option Refusal
pose_refusal s m p =
    lacks_pose m p
    or moves_while_stopped s p
    or first_zone (unowned_by_pose s m p)
    or first_zone (plate_under_pose s m p)
    or jump s m p
    or first_zone (opens_onto_plate s m p)
    or runs_onto_plate s m p
    or worn s

abbrev pub advance_refusal : ModelState → Machine → Option Refusal
advance_refusal s m =
    has_no_work m
    or press_unowned s m
    or not_at_work s m
    or nothing_to_work s (own_move_of m)
    or no_room_for_work s (own_move_of m)
    or worn s

abbrev pub stop_refusal : ModelState → Machine → Option Refusal
stop_refusal s m = not_watch m or while_stopped s or worn s

abbrev pub resume_refusal : ModelState → Machine → Option Refusal
resume_refusal s m = not_watch m or not_stopped s or worn s
