-- What each refusal says of the state and of the call, and the order in which a call looks for its refusals. These
-- tables are written out on their own: they don't use `reply` or its tables.
use Rattle.std.specs.Prelude.{ℕ, Bool, true, false, ◌&&◌, ◌||◌, not, nat_eq, List, [], ◌∷◌, filter, Option, Some, None}
use Rattle.std.specs.Prelude.{is_none}
use Rattle.std.specs.Option.{option_eq}
use Rattle.std.specs.List.{find}
use Rattle.cell_rules.specs.Types.{Machine, Feed, Robot, Press, Deposit, Watch, Zone, Z1, Z2, Z3, Z4, Z5, Z6, Place}
use Rattle.cell_rules.specs.Types.{FeedEntry, FeedEnd, Arm1, PressIn, PressOut, Arm2, DepEntry, DepEnd, Posture}
use Rattle.cell_rules.specs.Types.{Closed, Moving, OpenIn, OpenOut, Pose, Turning, Loading, Unloading, Travelling}
use Rattle.cell_rules.specs.Types.{Middle, Low, Top, Running, Landing, Halted, Offering, Standing, Call, Claim, Give}
use Rattle.cell_rules.specs.Types.{Yield, Take, Release, SetPose, Advance, Inquire, Stop, Resume, Refusal, NotParty}
use Rattle.cell_rules.specs.Types.{Held, AlreadyMine, Shut, NotOwner, PlateInZone, NoPlate, PlaceFull, WrongWay, Jump}
use Rattle.cell_rules.specs.Types.{NotAtWork, NoPose, Worn, Stopped, NotStopped, InUse, same_machine, same_zone}
use Rattle.cell_rules.specs.Types.{same_posture}
use Rattle.cell_types.specs.declared.machine.Machine.TheVariants.{Table as TableMachine}
use Rattle.cell_types.specs.declared.machine.Machine.TheVariants.{Crane as CraneMachine}
use Rattle.cell_types.specs.declared.place.Place.TheVariants.{Table}
use Rattle.cell_types.specs.declared.place.Place.TheVariants.{Crane}
use Rattle.cell_rules.specs.ZoneMap.{zone_in}
use Rattle.cell_rules.specs.PlaceSet.{has}
use Rattle.cell_rules.specs.ModelState.{ModelState}

-- the orders, as lists of the refusals' numbers
abbrev pub order_of : Call → List ℕ
order_of (Claim _) = 1 ∷ 14 ∷ 3 ∷ 2 ∷ 4 ∷ 13 ∷ []
order_of (Give _) = 1 ∷ 14 ∷ 5 ∷ 6 ∷ 9 ∷ 7 ∷ 8 ∷ 13 ∷ []
order_of (Yield _) = 1 ∷ 5 ∷ 6 ∷ 4 ∷ 16 ∷ 13 ∷ []
order_of (Take _) = 1 ∷ 5 ∷ 7 ∷ 13 ∷ []
order_of (Release _) = 1 ∷ 5 ∷ 6 ∷ 4 ∷ 16 ∷ 13 ∷ []
order_of (SetPose _) = 12 ∷ 14 ∷ 5 ∷ 6 ∷ 10 ∷ 8 ∷ 13 ∷ []
order_of Advance = 12 ∷ 5 ∷ 11 ∷ 7 ∷ 8 ∷ 13 ∷ []
order_of (Inquire _) = []
order_of Stop = 1 ∷ 14 ∷ 13 ∷ []
order_of Resume = 1 ∷ 15 ∷ 13 ∷ []

-- the machines that meet in a zone: the host, then the guest
abbrev pub parties_of : Zone → Machine × Machine
parties_of Z1 = (TableMachine, Feed)
parties_of Z2 = (TableMachine, Robot)
parties_of Z3 = (Press, Robot)
parties_of Z4 = (Deposit, Robot)
parties_of Z5 = (Deposit, CraneMachine)
parties_of Z6 = (Feed, CraneMachine)

-- who may give in a zone while it has a posture: from which place, and to which
abbrev pub gift_of : Machine → Zone → Posture → Option (Place × Place)
gift_of Feed Z1 OpenIn = Some (FeedEnd, Table)
gift_of TableMachine Z2 OpenOut = Some (Table, Arm1)
gift_of Robot Z3 OpenIn = Some (Arm1, PressIn)
gift_of Press Z3 OpenOut = Some (PressOut, Arm2)
gift_of Robot Z4 OpenIn = Some (Arm2, DepEntry)
gift_of Deposit Z5 OpenOut = Some (DepEnd, Crane)
gift_of CraneMachine Z6 OpenIn = Some (Crane, FeedEntry)
gift_of _ _ _ = None

-- the poses of a machine, and the postures that they give its zones; no zones if the machine doesn't have the pose
abbrev pub zones_posed : Machine → Pose → List (Zone × Posture)
zones_posed TableMachine Turning = (Z1, Moving) ∷ (Z2, Moving) ∷ []
zones_posed TableMachine Loading = (Z1, OpenIn) ∷ (Z2, Closed) ∷ []
zones_posed TableMachine Unloading = (Z1, Closed) ∷ (Z2, OpenOut) ∷ []
zones_posed Press Travelling = (Z3, Moving) ∷ []
zones_posed Press Middle = (Z3, OpenIn) ∷ []
zones_posed Press Low = (Z3, OpenOut) ∷ []
zones_posed Press Top = (Z3, Closed) ∷ []
zones_posed Feed Running = (Z6, Moving) ∷ []
zones_posed Feed Landing = (Z6, OpenIn) ∷ []
zones_posed Feed Halted = (Z6, Closed) ∷ []
zones_posed Deposit Running = (Z4, Moving) ∷ (Z5, Moving) ∷ []
zones_posed Deposit Landing = (Z4, OpenIn) ∷ (Z5, Closed) ∷ []
zones_posed Deposit Offering = (Z4, Closed) ∷ (Z5, OpenOut) ∷ []
zones_posed Deposit Standing = (Z4, OpenIn) ∷ (Z5, OpenOut) ∷ []
zones_posed Deposit Halted = (Z4, Closed) ∷ (Z5, Closed) ∷ []
zones_posed _ _ = []

-- what the state says of a zone
abbrev pub is_owner : ModelState → Zone → Machine → Bool
is_owner s z m = option_eq same_machine (zone_in s.zones z).owner (Some m)

abbrev pub is_owned_as : ModelState → Zone → Option Machine → Bool
is_owned_as s z o = option_eq same_machine (zone_in s.zones z).owner o

abbrev pub has_plate : ModelState → Zone → Bool
has_plate s z = (zone_in s.zones z).flag

abbrev pub is_in : ModelState → Zone → Posture → Bool
is_in s z q = same_posture (zone_in s.zones z).posture q

abbrev pub is_shut : Posture → Bool
is_shut Closed = true
is_shut Moving = true
is_shut OpenIn = false
is_shut OpenOut = false

-- the stamp is the last one
abbrev pub is_worn : ModelState → Bool
is_worn s = nat_eq s.stamp 1048575

abbrev pub is_stranger : Machine → Zone → Bool
is_stranger m z = not (same_machine m (parties_of z).0 || same_machine m (parties_of z).1)

-- the zone has this owner, or none, and the owner isn't the machine
abbrev pub is_anothers : ModelState → Machine → Zone → Option Machine → Bool
is_anothers s m z o = not (is_owner s z m) && is_owned_as s z o

-- feed would leave the table's zone while its belt runs with a plate at the end
abbrev pub is_in_use : ModelState → Machine → Zone → Bool
is_in_use s Feed Z1 = is_in s Z6 Moving && has s.full FeedEnd
is_in_use s _ _ = false

abbrev pub on_way : Option (Place × Place) → (Place × Place → Bool) → Bool
on_way None test = false
on_way (Some way) test = test way

abbrev pub claim_cause : ModelState → Machine → Zone → Refusal → Bool
claim_cause s m z NotParty = is_stranger m z
claim_cause s m z AlreadyMine = is_owner s z m
claim_cause s m z (Held o) = is_owner s z o && not (same_machine o m)
claim_cause s m z (Shut q) = same_machine m (parties_of z).1 && is_in s z q && is_shut q
claim_cause s m z Worn = is_worn s
claim_cause s m z Stopped = s.stopped
claim_cause s m z _ = false

abbrev pub give_cause : ModelState → Machine → Zone → Refusal → Bool
give_cause s m z NotParty = is_stranger m z
give_cause s m z (NotOwner o) = is_anothers s m z o
give_cause s m z (PlateInZone y) = same_zone y z && has_plate s z
give_cause s m z WrongWay = is_none (gift_of m z (zone_in s.zones z).posture)
give_cause s m z NoPlate = on_way (gift_of m z (zone_in s.zones z).posture) (λ way. not (has s.full way.0))
give_cause s m z PlaceFull = on_way (gift_of m z (zone_in s.zones z).posture) (λ way. has s.full way.1)
give_cause s m z Worn = is_worn s
give_cause s m z Stopped = s.stopped
give_cause s m z _ = false

abbrev pub yield_cause : ModelState → Machine → Zone → Refusal → Bool
yield_cause s m z NotParty = is_stranger m z
yield_cause s m z (NotOwner o) = is_anothers s m z o
yield_cause s m z (PlateInZone y) = same_zone y z && has_plate s z
yield_cause s m z (Shut q) = is_in s z q && is_shut q
yield_cause s m z InUse = is_in_use s m z
yield_cause s m z Worn = is_worn s
yield_cause s m z _ = false

abbrev pub take_cause : ModelState → Machine → Zone → Refusal → Bool
take_cause s m z NotParty = is_stranger m z
take_cause s m z (NotOwner o) = is_anothers s m z o
take_cause s m z NoPlate = not (has_plate s z)
take_cause s m z Worn = is_worn s
take_cause s m z _ = false

abbrev pub release_cause : ModelState → Machine → Zone → Refusal → Bool
release_cause s m z NotParty = is_stranger m z
release_cause s m z (NotOwner o) = is_anothers s m z o
release_cause s m z (PlateInZone y) = same_zone y z && has_plate s z
release_cause s m z (Shut Moving) = is_in s z Moving
release_cause s m z InUse = is_in_use s m z
release_cause s m z Worn = is_worn s
release_cause s m z _ = false

-- the zones that a pose concerns: those that are to move, and those that get another posture
abbrev pub is_changed : ModelState → Zone × Posture → Bool
is_changed s row = same_posture row.1 Moving || not (same_posture row.1 (zone_in s.zones row.0).posture)

abbrev pub concerned : ModelState → Machine → Pose → List (Zone × Posture)
concerned s m p = filter (is_changed s) (zones_posed m p)

-- a test of a zone that was found
abbrev pub on_zone : Option (Zone × Posture) → (Zone → Bool) → Bool
on_zone None test = false
on_zone (Some row) test = test row.0

abbrev pub lowest : (Zone → Bool) → List (Zone × Posture) → Option (Zone × Posture)
lowest test rows = find (λ row. test row.0) rows

-- table and press take a pose only after one that moves
abbrev pub jumps : ModelState → Machine → Pose → Bool
jumps s TableMachine Loading = not (is_in s Z1 Moving && is_in s Z2 Moving)
jumps s TableMachine Unloading = not (is_in s Z1 Moving && is_in s Z2 Moving)
jumps s Press Middle = not (is_in s Z3 Moving)
jumps s Press Low = not (is_in s Z3 Moving)
jumps s Press Top = not (is_in s Z3 Moving)
jumps s _ _ = false

-- a zone would open inward onto a plate, or a belt run with a plate at its end
abbrev pub lacks_room : ModelState → Machine → Pose → Bool
lacks_room s TableMachine Loading = not (is_in s Z1 OpenIn) && has s.full Table
lacks_room s Press Middle = not (is_in s Z3 OpenIn) && (has s.full PressIn || has s.full PressOut)
lacks_room s Feed Landing = not (is_in s Z6 OpenIn) && has s.full FeedEntry
lacks_room s Feed Running = has s.full FeedEnd && not (is_owner s Z1 Feed)
lacks_room s Deposit Landing = not (is_in s Z4 OpenIn) && has s.full DepEntry
lacks_room s Deposit Standing = not (is_in s Z4 OpenIn) && has s.full DepEntry
lacks_room s Deposit Running = has s.full DepEnd
lacks_room s _ _ = false

-- the poses that move
abbrev pub is_moving : Pose → Bool
is_moving Turning = true
is_moving Travelling = true
is_moving Running = true
is_moving _ = false

abbrev pub has_none : List (Zone × Posture) → Bool
has_none [] = true
has_none (row ∷ rows) = false

abbrev pub pose_cause : ModelState → Machine → Pose → Refusal → Bool
pose_cause s m p NoPose = has_none (zones_posed m p)
pose_cause s m p (NotOwner o) = on_zone (lowest (λ z. not (is_owner s z m)) (concerned s m p)) (λ z. is_owned_as s z o)
pose_cause s m p (PlateInZone y) = on_zone (lowest (has_plate s) (concerned s m p)) (λ z. same_zone y z)
pose_cause s m p Jump = jumps s m p
pose_cause s m p PlaceFull = lacks_room s m p
pose_cause s m p Worn = is_worn s
pose_cause s m p Stopped = is_moving p && s.stopped
pose_cause s m p _ = false

-- a machine isn't at work: its belt doesn't run, or its press isn't closed
abbrev pub is_idle : ModelState → Machine → Bool
is_idle s Feed = not (is_in s Z6 Moving)
is_idle s Deposit = not (is_in s Z4 Moving && is_in s Z5 Moving)
is_idle s Press = not (is_in s Z3 Closed)
is_idle s _ = false

-- the places where its work begins and ends
abbrev pub work_at : Machine → Option (Place × Place)
work_at Feed = Some (FeedEntry, FeedEnd)
work_at Deposit = Some (DepEntry, DepEnd)
work_at Press = Some (PressIn, PressOut)
work_at _ = None

abbrev pub advance_cause : ModelState → Machine → Refusal → Bool
advance_cause s m NoPose = is_none (work_at m)
advance_cause s m (NotOwner o) = same_machine m Press && is_anothers s Press Z3 o
advance_cause s m NotAtWork = is_idle s m
advance_cause s m NoPlate = on_way (work_at m) (λ way. not (has s.full way.0))
advance_cause s m PlaceFull = on_way (work_at m) (λ way. has s.full way.1)
advance_cause s m Worn = is_worn s
advance_cause s m _ = false

-- the watch alone stops and resumes, in turn
abbrev pub stop_cause : ModelState → Machine → Refusal → Bool
stop_cause s m NotParty = not (same_machine m Watch)
stop_cause s m Stopped = s.stopped
stop_cause s m Worn = is_worn s
stop_cause s m _ = false

abbrev pub resume_cause : ModelState → Machine → Refusal → Bool
resume_cause s m NotParty = not (same_machine m Watch)
resume_cause s m NotStopped = not s.stopped
resume_cause s m Worn = is_worn s
resume_cause s m _ = false

-- what a refusal of a call says of the state
abbrev pub is_cause : ModelState → Machine → Call → Refusal → Bool
is_cause s m (Claim z) r = claim_cause s m z r
is_cause s m (Give z) r = give_cause s m z r
is_cause s m (Yield z) r = yield_cause s m z r
is_cause s m (Take z) r = take_cause s m z r
is_cause s m (Release z) r = release_cause s m z r
is_cause s m (SetPose p) r = pose_cause s m p r
is_cause s m Advance r = advance_cause s m r
is_cause s m (Inquire z) r = false
is_cause s m Stop r = stop_cause s m r
is_cause s m Resume r = resume_cause s m r
