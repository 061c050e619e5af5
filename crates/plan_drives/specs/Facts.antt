-- What a machine knows by its own done calls, and by owning what it waited for, whatever the others do. It is written
-- as a motor: what this motor needs is so.
use Rattle.std.specs.Prelude.{ℕ, ◌<◌, IsTrue, Bool, true, false, ◌&&◌, ◌||◌, not, nat_eq, map, replicate, List, []}
use Rattle.std.specs.Prelude.{◌∷◌}
use Rattle.std.specs.Prelude.{take, Option, Some, None, option_map, if◌then◌else◌}
use Rattle.std.specs.Option.{option_or, option_eq}
use Rattle.std.specs.List.{range_with_len}
use Rattle.plan_types.specs.declared.posture.Posture.{Posture}
use Rattle.plan_types.specs.declared.posture.Posture.TheVariants.{OpenIn, OpenOut}
use Rattle.plan_types.specs.declared.table.Way.{Way}
use Rattle.plan_types.specs.Same.{same_posture}
use Rattle.plan_types.specs.Below.{any_below}
use Rattle.plan_types.specs.declared.call.Call.{Call}
use Rattle.plan_types.specs.declared.call.Call.TheVariants.{Claim, Give, Yield, Take, Release, SetPose, Advance}
use Rattle.plan_types.specs.Table.{PlanTable, zone_count, pose_count, zone_row, host_of, guest_of, posture_of}
use Rattle.plan_types.specs.Table.{is_hosted, is_moving_pose, is_source, is_sink, same_space}
use Rattle.plan_rules.specs.declared.state.State.{State}
use Rattle.plan_rules.specs.State.{posture_at}
use Rattle.plan_rules.specs.Sound.{is_open}
use Rattle.plan_motors.specs.declared.motor.ZoneNeed.{ZoneNeed}
use Rattle.plan_motors.specs.declared.motor.Motor.{Motor}
use Rattle.plan_motors.specs.Motor.{no_need, need_of, place_need}
use Rattle.plan_drives.specs.declared.line.Line.{Line}
use Rattle.plan_drives.specs.declared.line.Line.TheVariants.{Do, Await, Run}

abbrev pub no_facts : ℕ → Motor
no_facts m = record { machine = m; zones = replicate 10 no_need; places = replicate 16 None }

-- ---- what a done call says of a zone

-- a host gives plates outward and takes them inward, a guest the other way
abbrev pub way_given : PlanTable → ℕ → ℕ → Option Way
way_given t m z = if nat_eq m (host_of t z) then (zone_row t z).outward else (zone_row t z).inward

abbrev pub way_taken : PlanTable → ℕ → ℕ → Option Way
way_taken t m z = if nat_eq m (host_of t z) then (zone_row t z).inward else (zone_row t z).outward

abbrev pub posture_taken : PlanTable → ℕ → ℕ → Posture
posture_taken t m z = if nat_eq m (host_of t z) then OpenIn else OpenOut

-- a pose gives a zone this posture, and some pose of the plan does
abbrev pub gives : PlanTable → ℕ → Posture → ℕ → Bool
gives t z q p = option_eq same_posture (posture_of t p z) (Some q)

abbrev pub some_gives : PlanTable → ℕ → Posture → Bool
some_gives t z q = any_below (gives t z q) (pose_count t)

-- the one way in which the poses of the plan open a zone, if there is only one
abbrev pub one_way : Bool → Bool → Option Posture
one_way true false = Some OpenIn
one_way false true = Some OpenOut
one_way _ _ = None

-- what its owner knows about a zone's posture: a guest owns only zones that are open
abbrev pub posture_owned : PlanTable → ℕ → ℕ → Option Posture
posture_owned t m z =
    if nat_eq m (guest_of t z) then one_way (some_gives t z OpenIn) (some_gives t z OpenOut) else None

-- a zone that the machine owns, as it has found out
abbrev pub zone_owned : Option Posture → ZoneNeed → ZoneNeed
zone_owned told known = record { holds = true; posture = option_or known.posture told }

-- a zone that it has left: only of one that it hosts does it still know the posture
abbrev pub zone_left : Bool → ZoneNeed → ZoneNeed
zone_left hosted known = record { holds = false; posture = if hosted then known.posture else None }

-- a zone that it has left with a plate, here or in another zone of the space: a host gives only outward
abbrev pub zone_given : Bool → Bool → ZoneNeed → ZoneNeed
zone_given here hosted known =
    record { holds = false; posture = if hosted then (if here then Some OpenOut else known.posture) else None }

-- a zone from which it has taken a plate, here or in another zone of the space
abbrev pub zone_taken : Bool → Posture → ZoneNeed → ZoneNeed
zone_taken here posture known = record { holds = true; posture = if here then Some posture else known.posture }

-- a zone after a pose, which gives it a posture or none: all zones that it hosts are its own if the pose moves
abbrev pub zone_posed : Bool → Option Posture → ZoneNeed → ZoneNeed
zone_posed owned given known = record { holds = owned || known.holds; posture = option_or given known.posture }

-- a call about a zone tells of each zone of its space
abbrev pub zone_facts : PlanTable → Motor → Call → ℕ → ZoneNeed
zone_facts t f (Claim y) z =
    if same_space t y z then zone_owned (posture_owned t f.machine z) (need_of f z) else need_of f z
zone_facts t f (Give y) z =
    if same_space t y z then zone_given (nat_eq y z) (is_hosted t z f.machine) (need_of f z) else need_of f z
zone_facts t f (Yield y) z = if same_space t y z then zone_left (is_hosted t z f.machine) (need_of f z) else need_of f z
zone_facts t f (Take y) z =
    if same_space t y z then zone_taken (nat_eq y z) (posture_taken t f.machine z) (need_of f z) else need_of f z
zone_facts t f (Release y) z =
    if same_space t y z then zone_left (is_hosted t z f.machine) (need_of f z) else need_of f z
zone_facts t f (SetPose p) z =
    zone_posed (is_moving_pose t p && is_hosted t z f.machine) (posture_of t p z) (need_of f z)
zone_facts t f _ z = need_of f z

-- ---- and of a place

abbrev pub begins_at : Option Way → ℕ → Bool
begins_at None p = false
begins_at (Some way) p = nat_eq way.from p

abbrev pub ends_at : Option Way → ℕ → Bool
ends_at None p = false
ends_at (Some way) p = nat_eq way.to p

-- a place that was advanced: a source is full, a sink is empty, and one that is both is what it wasn't before
abbrev pub place_turned : Bool → Bool → Option Bool → Option Bool
place_turned true false known = Some true
place_turned false true known = Some false
place_turned _ _ known = option_map not known

-- the place from which a plate was given is empty, and the one to which it was taken is full
abbrev pub place_facts : PlanTable → Motor → Call → ℕ → Option Bool
place_facts t f (Give y) p = if begins_at (way_given t f.machine y) p then Some false else place_need f p
place_facts t f (Take y) p = if ends_at (way_taken t f.machine y) p then Some true else place_need f p
place_facts t f (Advance y) p =
    if nat_eq y p then place_turned (is_source t y) (is_sink t y) (place_need f p) else place_need f p
place_facts t f _ p = place_need f p

-- ---- what is known after a done call, after a line, and at a line

abbrev pub facts_after : PlanTable → Motor → Call → Motor
facts_after t f c = record {
  machine = f.machine;
  zones = map (zone_facts t f c) (range_with_len 0 10);
  places = map (place_facts t f c) (range_with_len 0 16);
}

-- to have waited for a zone tells what a claim of it does
abbrev pub facts_after_line : PlanTable → Motor → Line → Motor
facts_after_line t f (Do c) = facts_after t f c
facts_after_line t f (Await z) = facts_after t f (Claim z)
facts_after_line t f (Run motors) = f

abbrev pub facts_along : PlanTable → Motor → List Line → Motor
facts_along t f [] = f
facts_along t f (line ∷ lines) = facts_along t (facts_after_line t f line) lines

-- each round begins with nothing known
abbrev pub facts_at : PlanTable → ℕ → List Line → ℕ → Motor
facts_at t m program k = facts_along t (no_facts m) (take k program)

-- ---- what has to be so at first

-- each open zone is open as some pose of the plan gives
abbrev pub OpensByPoses : PlanTable → State → Type 0
OpensByPoses t s =
    (z : ℕ) → z < zone_count t → IsTrue (is_open (posture_at s z)) → IsTrue (some_gives t z (posture_at s z))
