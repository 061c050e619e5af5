-- The guards of each machine and call: patterns that refuse the call, each with its refusal, in the order of the
-- refusals.
use Rattle.std.specs.Prelude.{ℕ, Bool, true, false, ◌&&◌, not, Option, Some, None, is_none, option_map, Result, Ok, Err}
use Rattle.std.specs.Prelude.{List, [], ◌∷◌, ◌++◌, map, if◌then◌else◌}
use Rattle.std.specs.Option.{option_or}
use Rattle.std.specs.List.{find, flat_map, list_all}
use Rattle.cell_rules.specs.Types.{Machine, Feed, Press, Deposit, Watch, Zone, Z1, Z2, Z3, Z4, Z5, Z6, Place}
use Rattle.cell_rules.specs.Types.{FeedEntry, FeedEnd, PressIn, PressOut, DepEntry, DepEnd, Transfer, Posture, Closed}
use Rattle.cell_rules.specs.Types.{Moving, OpenIn, OpenOut, Pose, Running, Call, Claim, Give, Yield, Take, Release}
use Rattle.cell_rules.specs.Types.{SetPose, Advance, Inquire, Stop, Resume, Refusal, NotParty, Held, AlreadyMine}
use Rattle.cell_rules.specs.Types.{Shut, NotOwner, PlateInZone, NoPlate, PlaceFull, WrongWay, Jump, NotAtWork, NoPose}
use Rattle.cell_rules.specs.Types.{Worn, InUse, Stopped, NotStopped, host_of, guest_of, transfer_of, posture_of}
use Rattle.cell_rules.specs.Types.{all_postures, same_machine, same_zone, same_pose, number_of}
use Rattle.cell_types.specs.declared.machine.Machine.TheVariants.{Table as TableMachine}
use Rattle.cell_rules.specs.Names.{last_stamp, is_party, given_by, is_moving_pose, passes_through_moving, other_party}
use Rattle.cell_rules.specs.Names.{is_no_later}
use Rattle.cell_word.specs.Patterns.{stands, anything, nothing, when, both, owner_is, flag_is, posture_is, low_differs}
use Rattle.cell_word.specs.Patterns.{high_differs, place_is, stamp_is, mark_is}
use Rattle.cell_word.specs.Parties.{machine_of, opposite, is_guest}
use Rattle.cell_word.specs.declared.parties.Party.{Party}
use Rattle.cell_word.specs.declared.patterns.Pattern.{Pattern}
use Rattle.cell_word.specs.declared.patterns.Guard.{Guard}

abbrev pub guard : Pattern → Refusal → Guard
guard pattern refusal = record { pattern = pattern; refusal = refusal }

-- the refusal of the first guard whose pattern a word matches
abbrev pub first_refusal : ℕ → List Guard → Option Refusal
first_refusal w gs = option_map (λ g. g.refusal) (find (λ g. stands w g.pattern) gs)

-- the result of a call that guards may refuse
abbrev pub unless : {A : Type 0} → Option Refusal → A → Result A Refusal
unless None a = Ok a
unless (Some r) a = Err r

abbrev pub checked : ℕ → List Guard → Result (Unit {0}) Refusal
checked w gs = unless (first_refusal w gs) tt

abbrev pub went_on : {A : Type 0} → Result A Refusal → Result (Unit {0}) Refusal
went_on (Ok a) = Ok tt
went_on (Err r) = Err r

-- ---- guards of several calls

abbrev pub stranger : Machine → Zone → Guard
stranger m z = guard (when (not (is_party m z)) anything) NotParty

abbrev pub unowned : Zone → Guard
unowned z = guard (owner_is z None) (NotOwner None)

abbrev pub anothers : Zone → Machine → Guard
anothers z o = guard (owner_is z (Some o)) (NotOwner (Some o))

abbrev pub plate_in : Zone → Guard
plate_in z = guard (flag_is z true) (PlateInZone z)

abbrev pub shut : Zone → Posture → Guard
shut z q = guard (posture_is z q) (Shut q)

abbrev pub in_use : Machine → Zone → Guard
in_use m z =
    guard (when (same_machine m Feed && same_zone z Z1) (both (posture_is Z6 Moving) (place_is FeedEnd true))) InUse

abbrev pub worn : Guard
worn = guard (stamp_is last_stamp) Worn

-- the cell is stopped, or isn't
abbrev pub stopped : Guard
stopped = guard (mark_is true) Stopped

abbrev pub not_stopped : Guard
not_stopped = guard (mark_is false) NotStopped

abbrev pub no_plate_at : Place → Guard
no_plate_at p = guard (place_is p false) NoPlate

abbrev pub no_room_at : Place → Guard
no_room_at p = guard (place_is p true) PlaceFull

-- a party has to hold the zone
abbrev pub held_guards : Zone → Party → List Guard
held_guards z party = unowned z ∷ anothers z (machine_of z (opposite party)) ∷ []

-- and to find it clear
abbrev pub held_and_clear_guards : Zone → Party → List Guard
held_and_clear_guards z party = held_guards z party ++ plate_in z ∷ []

-- neither party may hold the zone
abbrev pub free_guards : Zone → Party → List Guard
free_guards z party =
    guard (owner_is z (Some (machine_of z party))) AlreadyMine
    ∷ guard (owner_is z (Some (machine_of z (opposite party)))) (Held (machine_of z (opposite party)))
    ∷ []

-- the zone has to be open to a guest
abbrev pub shut_guards : Zone → Party → List Guard
shut_guards z party =
    guard (when (is_guest party) (posture_is z Closed)) (Shut Closed)
    ∷ guard (when (is_guest party) (posture_is z Moving)) (Shut Moving)
    ∷ []

-- a party may enter the zone
abbrev pub entering_guards : Zone → Party → List Guard
entering_guards z party = free_guards z party ++ shut_guards z party

-- a machine may leave the zone
abbrev pub leaving_guards : Machine → Zone → List Guard
leaving_guards m z = shut z Moving ∷ in_use m z ∷ worn ∷ []

-- a plate may go from a place to another one
abbrev pub way_guards : Place → Place → List Guard
way_guards from to = no_plate_at from ∷ no_room_at to ∷ worn ∷ []

-- ---- the calls about a zone

abbrev pub claim_guards : Machine → Zone → List Guard
claim_guards m z =
    stranger m z
    ∷ stopped
    ∷ guard (owner_is z (Some m)) AlreadyMine
    ∷ guard (owner_is z (Some (other_party m z))) (Held (other_party m z))
    ∷ guard (when (same_machine m (guest_of z)) (posture_is z Closed)) (Shut Closed)
    ∷ guard (when (same_machine m (guest_of z)) (posture_is z Moving)) (Shut Moving)
    ∷ worn
    ∷ []

-- the row of transfers in which a machine gives in a zone; there is at most one
abbrev pub row_given : Machine → Zone → Option Transfer
row_given m z = option_or (given_by m (transfer_of z OpenIn)) (given_by m (transfer_of z OpenOut))

abbrev pub wrong_way : Machine → Zone → Posture → Guard
wrong_way m z q = guard (when (is_none (given_by m (transfer_of z q))) (posture_is z q)) WrongWay

-- the zone has to be in the posture in which a party gives
abbrev pub giving_guards : Zone → Party → List Guard
giving_guards z party = map (wrong_way (machine_of z party) z) all_postures

-- the place where a row begins is empty, or the place where it ends is full
abbrev pub starts_empty : Option Transfer → Pattern
starts_empty None = nothing
starts_empty (Some row) = place_is row.from false

abbrev pub ends_full : Option Transfer → Pattern
ends_full None = nothing
ends_full (Some row) = place_is row.to true

abbrev pub give_guards : Machine → Zone → List Guard
give_guards m z =
    stranger m z
    ∷ stopped
    ∷ unowned z
    ∷ anothers z (other_party m z)
    ∷ plate_in z
    ∷ wrong_way m z Closed
    ∷ wrong_way m z Moving
    ∷ wrong_way m z OpenIn
    ∷ wrong_way m z OpenOut
    ∷ guard (starts_empty (row_given m z)) NoPlate
    ∷ guard (ends_full (row_given m z)) PlaceFull
    ∷ worn
    ∷ []

abbrev pub yield_guards : Machine → Zone → List Guard
yield_guards m z =
    stranger m z
    ∷ unowned z
    ∷ anothers z (other_party m z)
    ∷ plate_in z
    ∷ shut z Closed
    ∷ shut z Moving
    ∷ in_use m z
    ∷ worn
    ∷ []

abbrev pub take_guards : Machine → Zone → List Guard
take_guards m z =
    stranger m z
    ∷ unowned z
    ∷ anothers z (other_party m z)
    ∷ guard (flag_is z false) NoPlate
    ∷ worn
    ∷ []

abbrev pub release_guards : Machine → Zone → List Guard
release_guards m z =
    stranger m z
    ∷ unowned z
    ∷ anothers z (other_party m z)
    ∷ plate_in z
    ∷ shut z Moving
    ∷ in_use m z
    ∷ worn
    ∷ []

-- ---- poses

-- the zones that a machine hosts, at most two
abbrev pub hosted_zones : Machine → Option Zone × Option Zone
hosted_zones TableMachine = (Some Z1, Some Z2)
hosted_zones Press = (Some Z3, None)
hosted_zones Deposit = (Some Z4, Some Z5)
hosted_zones Feed = (Some Z6, None)
hosted_zones _ = (None, None)

-- a zone and the posture that a pose gives it, if it gives one
abbrev pub posed_at : Machine → Pose → Option Zone → Option (Zone × Posture)
posed_at m p None = None
posed_at m p (Some z) = option_map (λ q. (z, q)) (posture_of m p z)

abbrev pub on_posed : (Zone → Posture → List Guard) → Option (Zone × Posture) → List Guard
on_posed f None = []
on_posed f (Some at) = f at.0 at.1

-- a zone that gets another posture has to be its host's
abbrev pub owner_guards : Zone → Posture → List Guard
owner_guards z q =
    guard (both (low_differs z q) (owner_is z None)) (NotOwner None)
    ∷ guard (both (high_differs z q) (owner_is z None)) (NotOwner None)
    ∷ guard (both (low_differs z q) (owner_is z (Some (guest_of z)))) (NotOwner (Some (guest_of z)))
    ∷ guard (both (high_differs z q) (owner_is z (Some (guest_of z)))) (NotOwner (Some (guest_of z)))
    ∷ []

-- and free of plates
abbrev pub plate_guards : Zone → Posture → List Guard
plate_guards z q =
    guard (both (low_differs z q) (flag_is z true)) (PlateInZone z)
    ∷ guard (both (high_differs z q) (flag_is z true)) (PlateInZone z)
    ∷ []

-- any posture but this one refuses
abbrev pub low_refuses : Zone → Posture → Refusal → Guard
low_refuses z q r = guard (low_differs z q) r

abbrev pub high_refuses : Zone → Posture → Refusal → Guard
high_refuses z q r = guard (high_differs z q) r

abbrev pub posture_guards : Zone → Posture → Refusal → List Guard
posture_guards z q r = low_refuses z q r ∷ high_refuses z q r ∷ []

-- the places that must be empty if a zone becomes open inward
abbrev pub end_of : Option Transfer → List Place
end_of None = []
end_of (Some row) = row.to ∷ []

abbrev pub inner_places : Zone → List Place
inner_places Z3 = PressIn ∷ PressOut ∷ []
inner_places z = end_of (transfer_of z OpenIn)

abbrev pub room_guards : Zone → Place → List Guard
room_guards z p =
    guard (both (low_differs z OpenIn) (place_is p true)) PlaceFull
    ∷ guard (both (high_differs z OpenIn) (place_is p true)) PlaceFull
    ∷ []

abbrev pub opening_guards : Zone → Posture → List Guard
opening_guards z OpenIn = flat_map (room_guards z) (inner_places z)
opening_guards z _ = []

-- table and press take a pose only from one that moves, unless the new pose moves too
abbrev pub jump_guards : Machine → Pose → Zone → Posture → List Guard
jump_guards m p z q =
    if passes_through_moving m && not (is_moving_pose p)
    then low_refuses z Moving Jump ∷ high_refuses z Moving Jump ∷ []
    else []

-- a belt doesn't run with a plate at its end; feed may if it owns z1
abbrev pub deposit_runs : Machine → Pose → Bool
deposit_runs m p = same_pose p Running && same_machine m Deposit

abbrev pub feed_runs : Machine → Pose → Bool
feed_runs m p = same_pose p Running && same_machine m Feed

abbrev pub run_guards : Machine → Pose → List Guard
run_guards m p =
    guard (when (deposit_runs m p) (place_is DepEnd true)) PlaceFull
    ∷ guard (when (feed_runs m p) (both (place_is FeedEnd true) (owner_is Z1 None))) PlaceFull
    ∷ guard (when (feed_runs m p) (both (place_is FeedEnd true) (owner_is Z1 (Some (host_of Z1))))) PlaceFull
    ∷ []

-- a pose of a machine gives each zone that it hosts a posture, so it gives one to the first
abbrev pub no_pose : Option (Zone × Posture) → Guard
no_pose one = guard (when (is_none one) anything) NoPose

-- while the cell is stopped no pose may move
abbrev pub moves_while_stopped : Pose → Guard
moves_while_stopped p = guard (when (is_moving_pose p) (mark_is true)) Stopped

abbrev pub pose_guards_at : Machine → Pose → Option (Zone × Posture) → Option (Zone × Posture) → List Guard
pose_guards_at m p one other =
    no_pose one
    ∷ moves_while_stopped p
    ∷ (on_posed owner_guards one
    ++ on_posed owner_guards other
    ++ on_posed plate_guards one
    ++ on_posed plate_guards other
    ++ on_posed (jump_guards m p) one
    ++ on_posed (jump_guards m p) other
    ++ on_posed opening_guards one
    ++ on_posed opening_guards other
    ++ run_guards m p
    ++ worn
    ∷ [])

abbrev pub pose_guards : Machine → Pose → List Guard
pose_guards m p = pose_guards_at m p (posed_at m p (hosted_zones m).0) (posed_at m p (hosted_zones m).1)

-- ---- work

abbrev pub advance_guards : Machine → List Guard
advance_guards Feed =
    low_refuses Z6 Moving NotAtWork
    ∷ high_refuses Z6 Moving NotAtWork
    ∷ no_plate_at FeedEntry
    ∷ no_room_at FeedEnd
    ∷ worn
    ∷ []
advance_guards Deposit =
    low_refuses Z4 Moving NotAtWork
    ∷ high_refuses Z4 Moving NotAtWork
    ∷ low_refuses Z5 Moving NotAtWork
    ∷ high_refuses Z5 Moving NotAtWork
    ∷ no_plate_at DepEntry
    ∷ no_room_at DepEnd
    ∷ worn
    ∷ []
advance_guards Press =
    unowned Z3
    ∷ anothers Z3 (guest_of Z3)
    ∷ low_refuses Z3 Closed NotAtWork
    ∷ high_refuses Z3 Closed NotAtWork
    ∷ no_plate_at PressIn
    ∷ no_room_at PressOut
    ∷ worn
    ∷ []
advance_guards _ = guard anything NoPose ∷ []

-- ---- stopping the cell, and letting it go on

-- the watch alone may
abbrev pub not_watch : Machine → Guard
not_watch m = guard (when (not (same_machine m Watch)) anything) NotParty

abbrev pub stop_guards : Machine → List Guard
stop_guards m = not_watch m ∷ stopped ∷ worn ∷ []

abbrev pub resume_guards : Machine → List Guard
resume_guards m = not_watch m ∷ not_stopped ∷ worn ∷ []

-- the guards of a machine and a call
abbrev pub guards_of : Machine → Call → List Guard
guards_of m (Claim z) = claim_guards m z
guards_of m (Give z) = give_guards m z
guards_of m (Yield z) = yield_guards m z
guards_of m (Take z) = take_guards m z
guards_of m (Release z) = release_guards m z
guards_of m (SetPose p) = pose_guards m p
guards_of m Advance = advance_guards m
guards_of m (Inquire z) = []
guards_of m Stop = stop_guards m
guards_of m Resume = resume_guards m

-- the numbers of the refusals of guards, and whether they are in an order
abbrev pub numbers_of : List Guard → List ℕ
numbers_of gs = map (λ g. number_of g.refusal) gs

abbrev pub is_ordered : List ℕ → List ℕ → Bool
is_ordered order [] = true
is_ordered order (n ∷ ns) = list_all (λ k. is_no_later order n k) ns && is_ordered order ns
