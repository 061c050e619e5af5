-- The reply to a call, and the state that it leaves.
use Rattle.std.specs.Prelude.{◌+◌, Bool, true, false, Option, Some, None, unwrap_or, if◌then◌else◌}
use Rattle.cell_rules.specs.Types.{Machine, Feed, Deposit, Zone, Place, Transfer, Closed, Pose, Call, Claim, Give}
use Rattle.cell_rules.specs.Types.{Yield, Take, Release, SetPose, Advance, Inquire, Stop, Resume, Refusal, Answer}
use Rattle.cell_rules.specs.Types.{Done, Shown, Refused, host_of, guest_of, transfer_of, posture_of, same_machine}
use Rattle.cell_rules.specs.Types.{own_move_of}
use Rattle.cell_rules.specs.declared.zones.ZoneState.{ZoneState}
use Rattle.cell_rules.specs.ZoneMap.{ZoneMap, put_zone, map_zones}
use Rattle.cell_rules.specs.PlaceSet.{PlaceSet, insert_place, remove_place}
use Rattle.cell_rules.specs.ModelState.{ModelState, zone_at}
use Rattle.cell_rules.specs.Refusals.{claim_refusal, give_refusal, yield_refusal, take_refusal, release_refusal}
use Rattle.cell_rules.specs.Refusals.{pose_refusal, advance_refusal, transfer_given, posture_at}
use Rattle.cell_rules.specs.Refusals.{stop_refusal, resume_refusal}

-- the first refusal of a call
abbrev pub refusal : ModelState → Machine → Call → Option Refusal
refusal s m (Claim z) = claim_refusal s m z
refusal s m (Give z) = give_refusal s m z
refusal s m (Yield z) = yield_refusal s m z
refusal s m (Take z) = take_refusal s m z
refusal s m (Release z) = release_refusal s m z
refusal s m (SetPose p) = pose_refusal s m p
refusal s m Advance = advance_refusal s m
refusal s m (Inquire z) = None
refusal s m Stop = stop_refusal s m
refusal s m Resume = resume_refusal s m

abbrev pub done_unless : Option Refusal → Answer
done_unless None = Done
done_unless (Some r) = Refused r

-- the answer to a call: to an inquiry the state of the zone, else Done unless it is refused
abbrev pub reply : ModelState → Machine → Call → Answer
reply s m (Inquire z) = Shown (zone_at s z).owner (zone_at s z).flag (zone_at s z).posture
reply s m c = done_unless (refusal s m c)

-- the other party of a zone
abbrev pub other_party : Machine → Zone → Machine
other_party m z = if same_machine m (host_of z) then guest_of z else host_of z

-- the places after a plate has left the giving place of its way
abbrev pub emptied : PlaceSet → Option Transfer → PlaceSet
emptied full None = full
emptied full (Some row) = remove_place full row.from

-- after one has come to the receiving place
abbrev pub filled : PlaceSet → Option Transfer → PlaceSet
filled full None = full
filled full (Some row) = insert_place full row.to

-- after a machine has moved one of its own from place to place
abbrev pub worked : PlaceSet → Option (Place × Place) → PlaceSet
worked full None = full
worked full (Some way) = insert_place (remove_place full way.0) way.1

-- a zone in the posture of a pose, or unchanged
abbrev pub posed : Machine → Pose → Zone → ZoneState → ZoneState
posed m p z v = record v { posture = unwrap_or (posture_of m p z) v.posture }

-- the zones that a belt hosts
abbrev pub is_belt_of : Machine → Zone → Bool
is_belt_of Feed z = same_machine (host_of z) Feed
is_belt_of Deposit z = same_machine (host_of z) Deposit
is_belt_of _ z = false

-- a belt's zones are Closed once a plate has come to its end
abbrev pub halted : Machine → Zone → ZoneState → ZoneState
halted m z v = if is_belt_of m z then record v { posture = Closed } else v

-- the zones, and the full places, after a Done call
abbrev pub zones_after : ModelState → Machine → Call → ZoneMap
zones_after s m (Claim z) = put_zone s.zones z (record (zone_at s z) { owner = Some m })
zones_after s m (Give z) = put_zone s.zones z (record (zone_at s z) { owner = Some (other_party m z); flag = true })
zones_after s m (Yield z) = put_zone s.zones z (record (zone_at s z) { owner = Some (other_party m z) })
zones_after s m (Take z) = put_zone s.zones z (record (zone_at s z) { flag = false })
zones_after s m (Release z) = put_zone s.zones z (record (zone_at s z) { owner = None })
zones_after s m (SetPose p) = map_zones (posed m p) s.zones
zones_after s m Advance = map_zones (halted m) s.zones
zones_after s m _ = s.zones

abbrev pub places_after : ModelState → Machine → Call → PlaceSet
places_after s m (Give z) = emptied s.full (transfer_given s m z)
places_after s m (Take z) = filled s.full (transfer_of z (posture_at s z))
places_after s m Advance = worked s.full (own_move_of m)
places_after s m _ = s.full

-- whether the cell is stopped after a Done call
abbrev pub stopped_after : ModelState → Call → Bool
stopped_after s Stop = true
stopped_after s Resume = false
stopped_after s _ = s.stopped

-- the state after a call that is Done
abbrev pub changed : ModelState → Machine → Call → ModelState
changed s m c = record {
  zones = zones_after s m c;
  full = places_after s m c;
  stamp = s.stamp + 1;
  stopped = stopped_after s c;
}

-- the state after a call, by its answer
abbrev pub next_by : Answer → ModelState → Machine → Call → ModelState
next_by Done s m c = changed s m c
next_by (Refused _) s m c = s
next_by (Shown _ _ _) s m c = s

abbrev pub next : ModelState → Machine → Call → ModelState
next s m c = next_by (reply s m c) s m c
