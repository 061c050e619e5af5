-- What a call needs of each zone, of each place and of the stop by itself, and what it makes of each, where no zone
-- joins the one before it.
use Rattle.std.specs.Prelude.{◌≡◌, ℕ, ◌<◌, Bool, true, false, ◌&&◌, ◌||◌, not, nat_eq, Option, Some, None, is_none, is_some}
use Rattle.std.specs.Prelude.{unwrap_or, if◌then◌else◌}
use Rattle.std.specs.Option.{option_eq}
use Rattle.plan_types.specs.declared.posture.Posture.{Posture}
use Rattle.plan_types.specs.declared.posture.Posture.TheVariants.{Moving, OpenIn, OpenOut}
use Rattle.plan_types.specs.declared.table.Transfer.{Transfer}
use Rattle.plan_types.specs.declared.call.Call.{Call}
use Rattle.plan_types.specs.declared.call.Call.TheVariants.{Claim, Give, Yield, Take, Release, SetPose, Inquire, Stop}
use Rattle.plan_types.specs.declared.call.Call.TheVariants.{Resume, Advance}
use Rattle.plan_types.specs.Same.{same_posture}
use Rattle.plan_types.specs.Below.{any_below}
use Rattle.plan_types.specs.Table.{PlanTable, zone_count, place_count, host_of, guest_of, is_party, has_pose, pose_row, posture_of}
use Rattle.plan_types.specs.Table.{is_moving_pose, transfer_of, watch, is_source, is_sink, has_end}
use Rattle.plan_rules.specs.declared.state.ZoneState.{ZoneState}
use Rattle.plan_rules.specs.declared.state.State.{State}
use Rattle.plan_rules.specs.State.{zone_at, is_full, leads_to, last_stamp}
use Rattle.plan_rules.specs.Sound.{implies, is_open, is_owned_by}
use Rattle.plan_rules.specs.Refusals.{given_by}
use Rattle.plan_rules.specs.Reply.{other_party}

-- the postures in which a party gives a plate, and takes one
abbrev pub giving_posture : PlanTable → ℕ → ℕ → Posture
giving_posture t m z = if nat_eq m (host_of t z) then OpenOut else OpenIn

abbrev pub taking_posture : PlanTable → ℕ → ℕ → Posture
taking_posture t m z = if nat_eq m (host_of t z) then OpenIn else OpenOut

-- the ways of the plates that a party gives and takes
abbrev pub given_way : PlanTable → ℕ → ℕ → Option Transfer
given_way t m z = given_by m (transfer_of t z (giving_posture t m z))

abbrev pub taken_way : PlanTable → ℕ → ℕ → Option Transfer
taken_way t m z = transfer_of t z (taking_posture t m z)

abbrev pub leads_from : Option Transfer → ℕ → Bool
leads_from None p = false
leads_from (Some way) p = nat_eq way.from p

-- whoever may ask, in some state
abbrev pub may_ask : PlanTable → ℕ → Call → Bool
may_ask t m (Claim z) = is_party t m z
may_ask t m (Give z) = is_party t m z && is_some (given_way t m z)
may_ask t m (Yield z) = is_party t m z
may_ask t m (Take z) = is_party t m z
may_ask t m (Release z) = is_party t m z
may_ask t m (SetPose p) = has_pose t m p
may_ask t m (Inquire z) = false
may_ask t m Stop = nat_eq m watch
may_ask t m Resume = nat_eq m watch
may_ask t m (Advance p) = has_end t m p

-- ---- the zone of a call
abbrev pub can_claim : PlanTable → ℕ → ℕ → ZoneState → Bool
can_claim t m z v = is_none v.owner && implies (nat_eq m (guest_of t z)) (is_open v.posture)

abbrev pub holds_clear : ℕ → ZoneState → Bool
holds_clear m v = is_owned_by v.owner m && not v.flag

abbrev pub can_give : PlanTable → ℕ → ℕ → ZoneState → Bool
can_give t m z v = holds_clear m v && same_posture v.posture (giving_posture t m z)

abbrev pub can_yield : ℕ → ZoneState → Bool
can_yield m v = holds_clear m v && is_open v.posture

abbrev pub can_take : PlanTable → ℕ → ℕ → ZoneState → Bool
can_take t m z v = is_owned_by v.owner m && v.flag && same_posture v.posture (taking_posture t m z)

abbrev pub can_release : ℕ → ZoneState → Bool
can_release m v = holds_clear m v && not (same_posture v.posture Moving)

-- ---- the zones of a pose
abbrev pub posture_by : PlanTable → ℕ → ℕ → ZoneState → Posture
posture_by t p z v = unwrap_or (posture_of t p z) v.posture

abbrev pub concerns : PlanTable → ℕ → ℕ → ℕ → ZoneState → Bool
concerns t m p z v =
    nat_eq (host_of t z) m && (is_moving_pose t p || not (same_posture (posture_by t p z v) v.posture))

-- with room, the ends of all ways that the pose opens have to be empty; without, the pose may open none
abbrev pub can_pose : PlanTable → ℕ → ℕ → Bool → ℕ → ZoneState → Bool
can_pose t m p room z v =
    implies (concerns t m p z v) (holds_clear m v)
    && implies ((pose_row t p).after_moving && nat_eq (host_of t z) m) (same_posture v.posture Moving)
    && implies (same_posture (posture_by t p z v) OpenIn) (room || same_posture v.posture OpenIn)

abbrev pub opens_to : PlanTable → ℕ → ℕ → ℕ → Bool
opens_to t p q z = option_eq same_posture (posture_of t p z) (Some OpenIn) && leads_to (transfer_of t z OpenIn) q

abbrev pub is_end_of_opened : PlanTable → ℕ → ℕ → Bool
is_end_of_opened t p q = any_below (opens_to t p q) (zone_count t)

-- ---- what a call needs of a zone, a place and the stop
-- a place that has to be empty, with no plate on its way to it
abbrev pub needs_room : PlanTable → ℕ → Call → Bool → ℕ → Bool
needs_room t m (Give z) room q = leads_to (given_way t m z) q
needs_room t m (SetPose p) room q = room && is_end_of_opened t p q
needs_room t m (Advance p) room q = room && nat_eq p q
needs_room t m _ room q = false

abbrev pub ends_in_need : PlanTable → ℕ → Call → Bool → Option Transfer → Bool
ends_in_need t m c room None = false
ends_in_need t m c room (Some way) = needs_room t m c room way.to

abbrev pub own_zone_fits : PlanTable → ℕ → Call → Bool → ℕ → ZoneState → Bool
own_zone_fits t m (Claim z) room y v = implies (nat_eq y z) (can_claim t m z v)
own_zone_fits t m (Give z) room y v = implies (nat_eq y z) (can_give t m z v)
own_zone_fits t m (Yield z) room y v = implies (nat_eq y z) (can_yield m v)
own_zone_fits t m (Take z) room y v = implies (nat_eq y z) (can_take t m z v)
own_zone_fits t m (Release z) room y v = implies (nat_eq y z) (can_release m v)
own_zone_fits t m (SetPose p) room y v = can_pose t m p room y v
own_zone_fits t m _ room y v = true

abbrev pub zone_fits : PlanTable → ℕ → Call → Bool → ℕ → ZoneState → Bool
zone_fits t m c room y v =
    own_zone_fits t m c room y v && not (v.flag && ends_in_need t m c room (transfer_of t y v.posture))

abbrev pub is_emptied : PlanTable → ℕ → Call → ℕ → Bool
is_emptied t m (Give z) q = leads_from (given_way t m z) q
is_emptied t m _ q = false

abbrev pub is_filled : PlanTable → ℕ → Call → ℕ → Bool
is_filled t m (Take z) q = leads_to (taken_way t m z) q
is_filled t m _ q = false

-- with room, a plate comes to a source; without, one goes from a sink
abbrev pub end_fits : PlanTable → Call → Bool → ℕ → Bool → Bool
end_fits t (Advance p) room q full = implies (nat_eq p q) (if room then is_source t p else (is_sink t p && full))
end_fits t _ room q full = true

abbrev pub place_fits : PlanTable → ℕ → Call → Bool → ℕ → Bool → Bool
place_fits t m c room q full =
    implies (needs_room t m c room q) (not full) && implies (is_emptied t m c q) full && end_fits t c room q full

abbrev pub stop_fits : PlanTable → Call → Bool → Bool
stop_fits t (Claim _) stopped = not stopped
stop_fits t (Give _) stopped = not stopped
stop_fits t (SetPose p) stopped = not (is_moving_pose t p && stopped)
stop_fits t (Advance _) stopped = not stopped
stop_fits t Stop stopped = not stopped
stop_fits t Resume stopped = stopped
stop_fits t _ stopped = true

-- ---- what it makes of them
abbrev pub zone_after : PlanTable → ℕ → Call → ℕ → ZoneState → ZoneState
zone_after t m (Claim z) y v = if nat_eq y z then record v { owner = Some m } else v
zone_after t m (Give z) y v = if nat_eq y z then record v { owner = Some (other_party t m z); flag = true } else v
zone_after t m (Yield z) y v = if nat_eq y z then record v { owner = Some (other_party t m z) } else v
zone_after t m (Take z) y v = if nat_eq y z then record v { flag = false } else v
zone_after t m (Release z) y v = if nat_eq y z then record v { owner = None } else v
zone_after t m (SetPose p) y v = record v { posture = posture_by t p y v }
zone_after t m _ y v = v

-- an advance fills its place, or empties it
abbrev pub is_turned : Call → ℕ → Bool
is_turned (Advance p) q = nat_eq p q
is_turned _ q = false

abbrev pub place_after : PlanTable → ℕ → Call → ℕ → Bool → Bool
place_after t m c q full =
    if is_turned c q then not full else ((full && not (is_emptied t m c q)) || is_filled t m c q)

abbrev pub stop_after : Call → Bool → Bool
stop_after Stop stopped = true
stop_after Resume stopped = false
stop_after _ stopped = stopped

-- all parts of a state are as a call needs them, and a stamp is left
pub record Fits (t : PlanTable) (m : ℕ) (c : Call) (room : Bool) (s : State) : Type 0 where
  pub may : may_ask t m c ≡ true
  pub zones : (z : ℕ) → z < zone_count t → zone_fits t m c room z (zone_at s z) ≡ true
  pub places : (q : ℕ) → q < place_count t → place_fits t m c room q (is_full s q) ≡ true
  pub stop : stop_fits t c s.stopped ≡ true
  pub fresh : s.stamp < last_stamp
