-- How a plan's tables are kept in memory of a fixed size: each row as its bytes, and blank rows after the last.
use Rattle.std.specs.Prelude.{◌≡◌, ℕ, ◌-◌, ◌%◌, ◌≤◌, not, nat_eq, nat_le, List, ◌++◌, length, map, get_or, take, drop}
use Rattle.std.specs.Prelude.{replicate}
use Rattle.std.specs.Prelude.{Option, Some, None, if◌then◌else◌}
use Rattle.plan_types.specs.declared.posture.Posture.{Posture}
use Rattle.plan_types.specs.declared.posture.Posture.TheVariants.{Closed, Moving, OpenIn, OpenOut}
use Rattle.plan_types.specs.declared.table.Way.{Way}
use Rattle.plan_types.specs.declared.table.PlanZone.{PlanZone}
use Rattle.plan_types.specs.declared.table.PlanPose.{PlanPose}
use Rattle.plan_types.specs.declared.sheet.Sheet.TheInside.{Inside}
use Rattle.plan_types.specs.Table.{PlanTable, whole_table, zone_count, pose_count, place_count, no_place}
use Rattle.plan_types.specs.Bytes.{zone_bytes, pose_bytes}

-- what some bytes tell, whatever they are
abbrev pub way_told : ℕ → ℕ → ℕ → Option Way
way_told mark from to = if nat_eq mark 0 then None else Some (record { from = from; to = to })

abbrev pub posture_told : ℕ → Option Posture
posture_told n =
    if nat_eq n 0 then None else if nat_eq n 1 then Some Closed else if nat_eq n 2 then Some Moving
    else if nat_eq n 3 then Some OpenIn else Some OpenOut

abbrev pub zone_told : List ℕ → PlanZone
zone_told row = record {
  host = get_or row 0 0;
  guest = get_or row 1 0;
  joins = nat_le 2 (get_or row 2 0);
  inward = way_told (get_or row 2 0 % 2) (get_or row 3 0) (get_or row 4 0);
  outward = way_told (get_or row 5 0) (get_or row 6 0) (get_or row 7 0);
}

abbrev pub pose_told : List ℕ → PlanPose
pose_told row = record {
  machine = get_or row 0 0;
  after_moving = not (nat_eq (get_or row 1 0) 0);
  gives = map posture_told (drop 2 row);
}

-- the tables that a sheet keeps
abbrev pub table_in : Inside → PlanTable
table_in a =
    whole_table a.machines (take a.zone_count (map zone_told a.zones)) (take a.pose_count (map pose_told a.poses))
    (take a.place_count a.places)

-- some rows, and blank ones up to a number of rows
abbrev pub filled : {A : Type 0} → List A → A → ℕ → List A
filled rows blank n = rows ++ replicate (n - length rows) blank

-- the sheet that keeps some tables
abbrev pub kept : PlanTable → Inside
kept t = record {
  machines = t.machines;
  zone_count = zone_count t;
  pose_count = pose_count t;
  place_count = place_count t;
  zones = filled (map zone_bytes t.zones) (replicate 8 0) 10;
  poses = filled (map pose_bytes t.poses) (replicate 12 0) 64;
  places = filled t.places no_place 16;
}

-- tables that a sheet has room for
pub record FitsSheet (t : PlanTable) : Type 0 where
  pub zones : zone_count t ≤ 10
  pub poses : pose_count t ≤ 64
  pub places : place_count t ≤ 16

-- a sheet keeps the tables that its bytes tell, and nothing else
pub record IsKept (a : Inside) : Type 0 where
  pub zones_fit : a.zone_count ≤ 10
  pub poses_fit : a.pose_count ≤ 64
  pub places_fit : a.place_count ≤ 16
  pub as_bytes : kept (table_in a) ≡ a

pub kept_back : (a : Inside) → IsKept a → kept (table_in a) ≡ a
kept_back a is = is.as_bytes
