-- The reply to a call, and the state that it leaves.
use Rattle.std.specs.Prelude.{ℕ, ◌+◌, Bool, true, false, ◌&&◌, ◌||◌, not, nat_eq, List, map, set, Option, Some, None}
use Rattle.std.specs.Prelude.{if◌then◌else◌}
use Rattle.std.specs.List.{range_with_len}
use Rattle.plan_types.specs.declared.table.Transfer.{Transfer}
use Rattle.plan_types.specs.declared.call.Call.{Call}
use Rattle.plan_types.specs.declared.call.Call.TheVariants.{Claim, Give, Yield, Take, Release, SetPose, Inquire, Stop}
use Rattle.plan_types.specs.declared.call.Call.TheVariants.{Resume, Advance}
use Rattle.plan_types.specs.declared.answer.Refusal.{Refusal}
use Rattle.plan_types.specs.declared.answer.Answer.{Answer}
use Rattle.plan_types.specs.declared.answer.Answer.TheVariants.{Done, Shown, Refused}
use Rattle.plan_types.specs.Table.{PlanTable, host_of, guest_of, transfer_of, same_space}
use Rattle.plan_rules.specs.declared.state.ZoneState.{ZoneState}
use Rattle.plan_rules.specs.declared.state.State.{State}
use Rattle.plan_rules.specs.State.{zone_at, owner_of, posture_at, is_full}
use Rattle.plan_rules.specs.Refusals.{claim_refusal, give_refusal, yield_refusal, take_refusal, release_refusal}
use Rattle.plan_rules.specs.Refusals.{pose_refusal, stop_refusal, resume_refusal, inquire_refusal, advance_refusal}
use Rattle.plan_rules.specs.Refusals.{transfer_given, posture_with}

-- the first refusal of a call
abbrev pub refusal : PlanTable → State → ℕ → Call → Option Refusal
refusal t s m (Claim z) = claim_refusal t s m z
refusal t s m (Give z) = give_refusal t s m z
refusal t s m (Yield z) = yield_refusal t s m z
refusal t s m (Take z) = take_refusal t s m z
refusal t s m (Release z) = release_refusal t s m z
refusal t s m (SetPose p) = pose_refusal t s m p
refusal t s m (Inquire z) = inquire_refusal t z
refusal t s m Stop = stop_refusal s m
refusal t s m Resume = resume_refusal s m
refusal t s m (Advance p) = advance_refusal t s m p

-- what a call is answered if nothing refuses it: an inquiry by the state of the zone
abbrev pub accepted : State → Call → Answer
accepted s (Inquire z) = Shown (zone_at s z).owner (zone_at s z).flag (zone_at s z).posture
accepted s _ = Done

abbrev pub answer_by : Option Refusal → Answer → Answer
answer_by None a = a
answer_by (Some r) a = Refused r

abbrev pub reply : PlanTable → State → ℕ → Call → Answer
reply t s m c = answer_by (refusal t s m c) (accepted s c)

-- the other party of a zone
abbrev pub other_party : PlanTable → ℕ → ℕ → ℕ
other_party t m z = if nat_eq m (host_of t z) then guest_of t z else host_of t z

-- the places after a plate has left the giving place of its way, and after one has come to the receiving place
abbrev pub emptied : List Bool → Option Transfer → List Bool
emptied full None = full
emptied full (Some way) = set full way.from false

abbrev pub filled : List Bool → Option Transfer → List Bool
filled full None = full
filled full (Some way) = set full way.to true

-- a zone in the posture of a pose, or unchanged
abbrev pub posed : PlanTable → State → ℕ → ℕ → ZoneState
posed t s p z = record (zone_at s z) { posture = posture_with t s p z }

abbrev pub all_posed : PlanTable → State → ℕ → List ZoneState
all_posed t s p = map (posed t s p) (range_with_len 0 10)

-- a zone, after the space of a zone has got another owner, and that zone a plate or none
abbrev pub handed : PlanTable → State → ℕ → Option ℕ → Bool → ℕ → ZoneState
handed t s z owner plate y = record {
  owner = if same_space t z y then owner else owner_of s y;
  flag = (plate && nat_eq y z) || (zone_at s y).flag;
  posture = posture_at s y;
}

abbrev pub with_owner : PlanTable → State → ℕ → Option ℕ → Bool → List ZoneState
with_owner t s z owner plate = map (handed t s z owner plate) (range_with_len 0 10)

-- the zones, and the full places, after a Done call
abbrev pub zones_after : PlanTable → State → ℕ → Call → List ZoneState
zones_after t s m (Claim z) = with_owner t s z (Some m) false
zones_after t s m (Give z) = with_owner t s z (Some (other_party t m z)) true
zones_after t s m (Yield z) = with_owner t s z (Some (other_party t m z)) false
zones_after t s m (Take z) = set s.zones z (record (zone_at s z) { flag = false })
zones_after t s m (Release z) = with_owner t s z None false
zones_after t s m (SetPose p) = all_posed t s p
zones_after t s m _ = s.zones

abbrev pub places_after : PlanTable → State → ℕ → Call → List Bool
places_after t s m (Give z) = emptied s.full (transfer_given t s m z)
places_after t s m (Take z) = filled s.full (transfer_of t z (posture_at s z))
-- a plate comes to a place that has none, and goes from one that has one
places_after t s m (Advance p) = set s.full p (not (is_full s p))
places_after t s m _ = s.full

-- whether the plant is stopped after a Done call
abbrev pub stopped_after : State → Call → Bool
stopped_after s Stop = true
stopped_after s Resume = false
stopped_after s _ = s.stopped

-- the state after a call that is Done
abbrev pub changed : PlanTable → State → ℕ → Call → State
changed t s m c = record {
  zones = zones_after t s m c;
  full = places_after t s m c;
  stamp = s.stamp + 1;
  stopped = stopped_after s c;
}

-- the state after a call, by its answer
abbrev pub next_by : Answer → PlanTable → State → ℕ → Call → State
next_by Done t s m c = changed t s m c
next_by (Refused _) t s m c = s
next_by (Shown _ _ _) t s m c = s

abbrev pub next : PlanTable → State → ℕ → Call → State
next t s m c = next_by (reply t s m c) t s m c
