-- The tables of a plan, and what they say of a zone, a pose or a place by its number.
use Rattle.std.specs.Prelude.{ℕ, zero, suc, ◌+◌, Bool, true, false, ◌&&◌, ◌||◌, nat_eq, nat_lt, List, length, get_or}
use Rattle.std.specs.Prelude.{map, replicate}
use Rattle.std.specs.Prelude.{Option, Some, None, option_map, is_some, if◌then◌else◌}
use Rattle.std.specs.Option.{option_eq}
use Rattle.std.specs.List.{list_any}
use mir.Val.{bool_byte}
use Rattle.plan_types.specs.declared.posture.Posture.{Posture}
use Rattle.plan_types.specs.declared.posture.Posture.TheVariants.{Closed, Moving, OpenIn, OpenOut}
use Rattle.plan_types.specs.declared.table.Way.{Way}
use Rattle.plan_types.specs.declared.table.PlanZone.{PlanZone}
use Rattle.plan_types.specs.declared.table.PlanPose.{PlanPose}
use Rattle.plan_types.specs.declared.table.PlanPlace.{PlanPlace}
use Rattle.plan_types.specs.declared.table.Transfer.{Transfer}
use Rattle.plan_types.specs.declared.shape.Postures.{Postures}
use Rattle.plan_types.specs.declared.shape.Postures.TheVariants.{Shut, Two, All}
use Rattle.plan_types.specs.declared.shape.ZoneShape.{ZoneShape}
use Rattle.plan_types.specs.Below.{any_below, sum_below}
use Rattle.plan_types.specs.Same.{same_posture}

-- how many machines there are, the zones, the poses and the places
pub record PlanTable : Type 0 where
  pub machines : ℕ
  pub zones : List PlanZone
  pub poses : List PlanPose
  pub places : List PlanPlace

abbrev pub whole_table : ℕ → List PlanZone → List PlanPose → List PlanPlace → PlanTable
whole_table machines zones poses places = record {
  machines = machines;
  zones = zones;
  poses = poses;
  places = places;
}

-- a place of a machine that no plate comes to from outside, and that none leaves for it
abbrev pub kept_by : ℕ → PlanPlace
kept_by keeper = record { keeper = keeper; source = false; sink = false }

-- tables without sources and sinks: of each place the machine that keeps it
abbrev pub plan_table : ℕ → List PlanZone → List PlanPose → List ℕ → PlanTable
plan_table machines zones poses keepers = whole_table machines zones poses (map kept_by keepers)

-- the watch's number
abbrev pub watch : ℕ
watch = 30

abbrev pub zone_count : PlanTable → ℕ
zone_count t = length t.zones

abbrev pub pose_count : PlanTable → ℕ
pose_count t = length t.poses

abbrev pub place_count : PlanTable → ℕ
place_count t = length t.places

-- the rows; past the end of a table stands a row that says nothing
abbrev pub no_zone : PlanZone
no_zone = record { host = 0; guest = 0; joins = false; inward = None; outward = None }

abbrev pub no_pose : PlanPose
no_pose = record { machine = 0; after_moving = false; gives = replicate 10 None }

abbrev pub no_place : PlanPlace
no_place = kept_by 0

abbrev pub zone_row : PlanTable → ℕ → PlanZone
zone_row t z = get_or t.zones z no_zone

abbrev pub pose_row : PlanTable → ℕ → PlanPose
pose_row t p = get_or t.poses p no_pose

abbrev pub place_row : PlanTable → ℕ → PlanPlace
place_row t p = get_or t.places p no_place

abbrev pub keeper_of : PlanTable → ℕ → ℕ
keeper_of t p = (place_row t p).keeper

-- plates come to a place from outside, and leave one for outside
abbrev pub is_source : PlanTable → ℕ → Bool
is_source t p = (place_row t p).source

abbrev pub is_sink : PlanTable → ℕ → Bool
is_sink t p = (place_row t p).sink

abbrev pub host_of : PlanTable → ℕ → ℕ
host_of t z = (zone_row t z).host

abbrev pub guest_of : PlanTable → ℕ → ℕ
guest_of t z = (zone_row t z).guest

-- the machine that has a pose, and the posture that the pose gives a zone
abbrev pub machine_of : PlanTable → ℕ → ℕ
machine_of t p = (pose_row t p).machine

abbrev pub posture_of : PlanTable → ℕ → ℕ → Option Posture
posture_of t p z = get_or (pose_row t p).gives z None

-- a zone is of one space with the zone before it
abbrev pub joins : PlanTable → ℕ → Bool
joins t z = (zone_row t z).joins

-- the space of a zone, by the number of its first zone
abbrev pub space_of : PlanTable → ℕ → ℕ
space_of t zero = 0
space_of t (suc z) = if joins t (suc z) then space_of t z else suc z

abbrev pub same_space : PlanTable → ℕ → ℕ → Bool
same_space t y z = nat_eq (space_of t y) (space_of t z)

-- a machine hosts a zone of the plan
abbrev pub is_hosted : PlanTable → ℕ → ℕ → Bool
is_hosted t z m = nat_lt z (zone_count t) && nat_eq (host_of t z) m

-- a machine is a zone's host or guest
abbrev pub is_party : PlanTable → ℕ → ℕ → Bool
is_party t m z = nat_lt z (zone_count t) && (nat_eq m (host_of t z) || nat_eq m (guest_of t z))

-- a machine enters the space of a zone: it is a party of a zone of this space
abbrev pub enters : PlanTable → ℕ → ℕ → Bool
enters t m z = any_below (λ y. same_space t y z && (nat_eq m (host_of t y) || nat_eq m (guest_of t y))) (zone_count t)

-- a machine keeps a place of the plan
abbrev pub is_place_of : PlanTable → ℕ → ℕ → Bool
is_place_of t p m = nat_lt p (place_count t) && nat_eq (keeper_of t p) m

-- a machine may ask for plates to come to a place, or to leave it: it keeps the place, which is a source or a sink
abbrev pub has_end : PlanTable → ℕ → ℕ → Bool
has_end t m p = is_place_of t p m && (is_source t p || is_sink t p)

-- a machine has a pose of the plan
abbrev pub has_pose : PlanTable → ℕ → ℕ → Bool
has_pose t m p = nat_lt p (pose_count t) && nat_eq (machine_of t p) m

-- a pose moves if it gives a zone Moving
abbrev pub is_moving : Option Posture → Bool
is_moving q = option_eq same_posture q (Some Moving)

abbrev pub is_moving_pose : PlanTable → ℕ → Bool
is_moving_pose t p = list_any is_moving (pose_row t p).gives

-- how a plate goes through a zone in a posture: inward from the guest to the host, outward from the host to the guest
abbrev pub transfer_by : ℕ → ℕ → Option Way → Option Transfer
transfer_by giver receiver way =
    option_map (λ w. record { giver = giver; receiver = receiver; from = w.from; to = w.to }) way

abbrev pub transfer_of : PlanTable → ℕ → Posture → Option Transfer
transfer_of t z Closed = None
transfer_of t z Moving = None
transfer_of t z OpenIn = transfer_by (guest_of t z) (host_of t z) (zone_row t z).inward
transfer_of t z OpenOut = transfer_by (host_of t z) (guest_of t z) (zone_row t z).outward

-- ---- the plan's word
-- some pose gives a zone of the plan a posture
abbrev pub gives : PlanTable → ℕ → Posture → ℕ → Bool
gives t z q p = option_eq same_posture (posture_of t p z) (Some q)

abbrev pub is_given : PlanTable → ℕ → Posture → Bool
is_given t z q = nat_lt z (zone_count t) && any_below (gives t z q) (pose_count t)

-- how many guests a space has, by its first zone: one, and one more for each zone that joins it
abbrev pub joined_to : PlanTable → ℕ → ℕ → Bool
joined_to t z y = nat_lt z y && nat_eq (space_of t y) z

abbrev pub guests_in : PlanTable → ℕ → ℕ
guests_in t z = 1 + sum_below (λ y. bool_byte (joined_to t z y)) (zone_count t)

-- what a zone has in the word: the owner of its space if it is the first zone there, a flag if a plate has a way
-- through it, and the postures that poses give it
abbrev pub zone_shape : PlanTable → ℕ → ZoneShape
zone_shape t z = record {
  guests = if nat_eq (space_of t z) z then guests_in t z else 0;
  flag = is_some (zone_row t z).inward || is_some (zone_row t z).outward;
  moves = is_given t z Moving;
  opens_in = is_given t z OpenIn;
  opens_out = is_given t z OpenOut;
}

-- where there is no zone
abbrev pub no_shape : ZoneShape
no_shape = record { guests = 1; flag = false; moves = false; opens_in = false; opens_out = false }

-- the postures that it can have: Closed, as it starts, and those that poses give it, of Moving, OpenIn and OpenOut
abbrev pub postures_by : Bool → Bool → Bool → Postures
postures_by false false false = Shut
postures_by true false false = Two Moving
postures_by false true false = Two OpenIn
postures_by false false true = Two OpenOut
postures_by _ _ _ = All

abbrev pub postures_of : ZoneShape → Postures
postures_of s = postures_by s.moves s.opens_in s.opens_out

-- its bits: those that tell nobody, the host and each guest; one for its flag if it has one; and none, one or two for
-- its posture
abbrev pub owner_bits : ℕ → ℕ
owner_bits zero = 0
owner_bits (suc more) = if nat_lt more 2 then 2 else if nat_lt more 6 then 3 else 4

abbrev pub flag_bits : Bool → ℕ
flag_bits flag = bool_byte flag

abbrev pub posture_bits : Postures → ℕ
posture_bits Shut = 0
posture_bits (Two q) = 1
posture_bits All = 2

abbrev pub shape_bits : ZoneShape → ℕ
shape_bits s = owner_bits s.guests + flag_bits s.flag + posture_bits (postures_of s)

abbrev pub zone_bits : PlanTable → ℕ → ℕ
zone_bits t z = shape_bits (zone_shape t z)

-- the bits of the word: those of the zones, one for a place, twenty for the stamp, one for the stop
abbrev pub word_width : PlanTable → ℕ
word_width t = sum_below (zone_bits t) (zone_count t) + place_count t + 21
