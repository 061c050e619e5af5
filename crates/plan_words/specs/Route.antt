-- Where a call goes: to the group of its zone, pose or place, by the number there. Stop and Resume go to each word in
-- turn.
use Rattle.std.specs.Prelude.{◌≡◌, ℕ, ◌+◌, ◌<◌}
use Rattle.plan_types.specs.declared.call.Call.{Call}
use Rattle.plan_types.specs.declared.call.Call.TheVariants.{Claim, Give, Yield, Take, Release, SetPose, Inquire, Stop}
use Rattle.plan_types.specs.declared.call.Call.TheVariants.{Resume, Advance}
use Rattle.plan_types.specs.Table.{PlanTable, zone_count, pose_count, place_count}
use Rattle.plan_words.specs.Group.{Group}
use Rattle.plan_words.specs.Words.{call_out, IsCallOf}
use Rattle.plan_words.specs.Groups.{label_of, labels_of, label_for, zones_of, looks_at, touches, group_of, number_in}

-- the group of a zone, of a pose, and of a place: its label
abbrev pub group_of_zone : PlanTable → ℕ → ℕ
group_of_zone t z = label_of (labels_of t) z

abbrev pub group_of_pose : PlanTable → ℕ → ℕ
group_of_pose t p = label_for t (zones_of t (looks_at t p))

abbrev pub group_of_place : PlanTable → ℕ → ℕ
group_of_place t p = label_for t (zones_of t (touches t p))

abbrev pub group_for : PlanTable → Call → ℕ
group_for t (Claim z) = group_of_zone t z
group_for t (Give z) = group_of_zone t z
group_for t (Yield z) = group_of_zone t z
group_for t (Take z) = group_of_zone t z
group_for t (Release z) = group_of_zone t z
group_for t (SetPose p) = group_of_pose t p
group_for t (Inquire z) = group_of_zone t z
group_for t Stop = 0
group_for t Resume = 0
group_for t (Advance p) = group_of_place t p

-- a call by the numbers of a group
abbrev pub call_in : Group → Call → Call
call_in g (Claim z) = Claim (number_in g.zones z)
call_in g (Give z) = Give (number_in g.zones z)
call_in g (Yield z) = Yield (number_in g.zones z)
call_in g (Take z) = Take (number_in g.zones z)
call_in g (Release z) = Release (number_in g.zones z)
call_in g (SetPose p) = SetPose (number_in g.poses p)
call_in g (Inquire z) = Inquire (number_in g.zones z)
call_in g Stop = Stop
call_in g Resume = Resume
call_in g (Advance p) = Advance (number_in g.places p)

abbrev pub IsCallOfPlan : PlanTable → Call → Type 0
IsCallOfPlan t (Claim z) = z < zone_count t
IsCallOfPlan t (Give z) = z < zone_count t
IsCallOfPlan t (Yield z) = z < zone_count t
IsCallOfPlan t (Take z) = z < zone_count t
IsCallOfPlan t (Release z) = z < zone_count t
IsCallOfPlan t (SetPose p) = p < pose_count t
IsCallOfPlan t (Inquire z) = z < zone_count t
IsCallOfPlan t Stop = Unit {0}
IsCallOfPlan t Resume = Unit {0}
IsCallOfPlan t (Advance p) = p < place_count t

-- it is a call of the group, which is this call by the plan's numbers
pub record IsRouted (t : PlanTable) (c : Call) : Type 0 where
  pub group : group_for t c < zone_count t + 1
  pub in_group : IsCallOf (group_of t (group_for t c)) (call_in (group_of t (group_for t c)) c)
  pub back : call_out (group_of t (group_for t c)) (call_in (group_of t (group_for t c)) c) ≡ c

abbrev pub CallsAreRouted : Type 0
CallsAreRouted = (t : PlanTable) (c : Call) → IsCallOfPlan t c → IsRouted t c
