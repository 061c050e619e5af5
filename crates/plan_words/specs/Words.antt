-- Calls, answers and states of a group, by the numbers of the group and by those of the plan.
use Rattle.std.specs.Prelude.{◌≡◌, ℕ, ◌<◌, length, ⊤}
use Rattle.plan_types.specs.declared.call.Call.{Call}
use Rattle.plan_types.specs.declared.call.Call.TheVariants.{Claim, Give, Yield, Take, Release, SetPose, Inquire, Stop}
use Rattle.plan_types.specs.declared.call.Call.TheVariants.{Resume, Advance}
use Rattle.plan_types.specs.declared.answer.Refusal.{Refusal}
use Rattle.plan_types.specs.declared.answer.Refusal.TheVariants.{NotParty, Held, AlreadyMine, Shut, NotOwner}
use Rattle.plan_types.specs.declared.answer.Refusal.TheVariants.{PlateInZone, NoPlate, PlaceFull, WrongWay, Jump}
use Rattle.plan_types.specs.declared.answer.Refusal.TheVariants.{NoPose, Worn, Stopped, NotStopped}
use Rattle.plan_types.specs.declared.answer.Answer.{Answer}
use Rattle.plan_types.specs.declared.answer.Answer.TheVariants.{Done, Shown, Refused}
use Rattle.plan_types.specs.Table.{PlanTable}
use Rattle.plan_rules.specs.declared.state.State.{State}
use Rattle.plan_rules.specs.State.{zone_at, is_full}
use Rattle.plan_rules.specs.Reply.{reply}
use Rattle.plan_words.specs.Group.{Group, zone_out, pose_out, place_out}

-- a call of the group, by the plan's numbers
abbrev pub call_out : Group → Call → Call
call_out g (Claim i) = Claim (zone_out g i)
call_out g (Give i) = Give (zone_out g i)
call_out g (Yield i) = Yield (zone_out g i)
call_out g (Take i) = Take (zone_out g i)
call_out g (Release i) = Release (zone_out g i)
call_out g (SetPose k) = SetPose (pose_out g k)
call_out g (Inquire i) = Inquire (zone_out g i)
call_out g Stop = Stop
call_out g Resume = Resume
call_out g (Advance j) = Advance (place_out g j)

-- its zone, pose or place is one of the group
abbrev pub IsCallOf : Group → Call → Type 0
IsCallOf g (Claim i) = i < length g.zones
IsCallOf g (Give i) = i < length g.zones
IsCallOf g (Yield i) = i < length g.zones
IsCallOf g (Take i) = i < length g.zones
IsCallOf g (Release i) = i < length g.zones
IsCallOf g (SetPose k) = k < length g.poses
IsCallOf g (Inquire i) = i < length g.zones
IsCallOf g Stop = ⊤
IsCallOf g Resume = ⊤
IsCallOf g (Advance j) = j < length g.places

-- an answer names a zone in one refusal alone; all else are machines and postures
abbrev pub refusal_out : Group → Refusal → Refusal
refusal_out g (PlateInZone i) = PlateInZone (zone_out g i)
refusal_out g NotParty = NotParty
refusal_out g (Held o) = Held o
refusal_out g AlreadyMine = AlreadyMine
refusal_out g (Shut q) = Shut q
refusal_out g (NotOwner o) = NotOwner o
refusal_out g NoPlate = NoPlate
refusal_out g PlaceFull = PlaceFull
refusal_out g WrongWay = WrongWay
refusal_out g Jump = Jump
refusal_out g NoPose = NoPose
refusal_out g Worn = Worn
refusal_out g Stopped = Stopped
refusal_out g NotStopped = NotStopped

abbrev pub answer_out : Group → Answer → Answer
answer_out g (Refused r) = Refused (refusal_out g r)
answer_out g Done = Done
answer_out g (Shown o f q) = Shown o f q

-- a state of the group's word has the plan's zones and places of the group
pub record IsIn (g : Group) (s : State) (whole : State) : Type 0 where
  pub zone : (i : ℕ) → i < length g.zones → zone_at whole (zone_out g i) ≡ zone_at s i
  pub place : (j : ℕ) → j < length g.places → is_full whole (place_out g j) ≡ is_full s j

-- and it has its own stamp and its own stop, which its calls see as the whole's
abbrev pub seen_by : State → State → State
seen_by s whole = record whole { stamp = s.stamp; stopped = s.stopped }

-- a call of the plan is answered as the call on its group's word
abbrev pub AnsweredAlike : PlanTable → Group → PlanTable → Type 0
AnsweredAlike t g u =
    (s whole : State) (m : ℕ) (c : Call) → IsIn g s whole → IsCallOf g c
    → reply t (seen_by s whole) m (call_out g c) ≡ answer_out g (reply u s m c)
