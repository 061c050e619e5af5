-- The bytes of the press and of the lift, written out, of a zone that plates go through one way only, and of tables in
-- which all numbers are different.
use Rattle.std.specs.Prelude.{◌≡◌, ℕ, true, false, [], ◌∷◌, replicate, Some, None}
use Rattle.plan_types.specs.declared.posture.Posture.TheVariants.{Closed, Moving, OpenIn, OpenOut}
use Rattle.plan_types.specs.declared.table.PlanPose.{PlanPose}
use Rattle.plan_types.specs.Table.{whole_table, plan_table, kept_by}
use Rattle.plan_types.specs.Examples.{way, zone, pose, two_at, press_table, lift_table, hand}
use Rattle.plan_types.specs.Readings.{unlike_table}
use Rattle.plan_types.specs.Bytes.{bytes_of, HasWholeRows}

-- a pose with a row for each of n zones
abbrev pub pose_of_width : ℕ → PlanPose
pose_of_width n = record { machine = 0; after_moving = false; gives = replicate n None }

-- a pose that gives no two neighbours of ten zones the same
abbrev pub pose_of_ten : PlanPose
pose_of_ten = record {
  machine = 0;
  after_moving = false;
  gives =
      Some Closed ∷ Some Moving ∷ Some OpenIn ∷ Some OpenOut ∷ None ∷ Some Moving ∷ Some OpenOut ∷ Some Closed
      ∷ Some OpenIn ∷ Some Moving ∷ [];
}

-- 2 machines, 1 zone, 4 poses, 2 places
-- the interior: host 1, guest 0, inward from 0 to 1, outward from 1 to 0
-- the poses of machine 1: open inward, open outward, closed, each only after moving; moving
-- place 0 is machine 0's, place 1 machine 1's
pub record BytesAreRight : Type 0 where
  pub press : bytes_of press_table ≡
      2 ∷ 1 ∷ 4 ∷ 2
      ∷ 1 ∷ 0 ∷ 1 ∷ 0 ∷ 1 ∷ 1 ∷ 1 ∷ 0
      ∷ 1 ∷ 1 ∷ 3 ∷ 0 ∷ 0 ∷ 0 ∷ 0 ∷ 0 ∷ 0 ∷ 0 ∷ 0 ∷ 0
      ∷ 1 ∷ 1 ∷ 4 ∷ 0 ∷ 0 ∷ 0 ∷ 0 ∷ 0 ∷ 0 ∷ 0 ∷ 0 ∷ 0
      ∷ 1 ∷ 1 ∷ 1 ∷ 0 ∷ 0 ∷ 0 ∷ 0 ∷ 0 ∷ 0 ∷ 0 ∷ 0 ∷ 0
      ∷ 1 ∷ 0 ∷ 2 ∷ 0 ∷ 0 ∷ 0 ∷ 0 ∷ 0 ∷ 0 ∷ 0 ∷ 0 ∷ 0
      ∷ 0 ∷ 1 ∷ []
  pub lift : bytes_of lift_table ≡
      3 ∷ 2 ∷ 5 ∷ 3
      ∷ 0 ∷ 1 ∷ 1 ∷ 1 ∷ 0 ∷ 1 ∷ 0 ∷ 1
      ∷ 0 ∷ 2 ∷ 1 ∷ 2 ∷ 0 ∷ 1 ∷ 0 ∷ 2
      ∷ 0 ∷ 0 ∷ 2 ∷ 2 ∷ 0 ∷ 0 ∷ 0 ∷ 0 ∷ 0 ∷ 0 ∷ 0 ∷ 0
      ∷ 0 ∷ 1 ∷ 3 ∷ 1 ∷ 0 ∷ 0 ∷ 0 ∷ 0 ∷ 0 ∷ 0 ∷ 0 ∷ 0
      ∷ 0 ∷ 1 ∷ 1 ∷ 4 ∷ 0 ∷ 0 ∷ 0 ∷ 0 ∷ 0 ∷ 0 ∷ 0 ∷ 0
      ∷ 0 ∷ 1 ∷ 4 ∷ 1 ∷ 0 ∷ 0 ∷ 0 ∷ 0 ∷ 0 ∷ 0 ∷ 0 ∷ 0
      ∷ 0 ∷ 1 ∷ 1 ∷ 3 ∷ 0 ∷ 0 ∷ 0 ∷ 0 ∷ 0 ∷ 0 ∷ 0 ∷ 0
      ∷ 0 ∷ 1 ∷ 2 ∷ []
  -- no way inward, or outward
  pub outward_alone : bytes_of (two_at (zone 1 0 None (way 1 0)) []) ≡
      2 ∷ 1 ∷ 0 ∷ 2
      ∷ 1 ∷ 0 ∷ 0 ∷ 0 ∷ 0 ∷ 1 ∷ 1 ∷ 0
      ∷ 0 ∷ 1 ∷ []
  pub inward_alone : bytes_of (two_at (zone 1 0 (way 0 1) None) []) ≡
      2 ∷ 1 ∷ 0 ∷ 2
      ∷ 1 ∷ 0 ∷ 1 ∷ 0 ∷ 1 ∷ 0 ∷ 0 ∷ 0
      ∷ 0 ∷ 1 ∷ []
  -- each pose has a row for ten zones
  pub press_rows : HasWholeRows press_table
  pub lift_rows : HasWholeRows lift_table
  -- each number has its own byte
  pub unlike : bytes_of unlike_table ≡
      9 ∷ 2 ∷ 3 ∷ 4
      ∷ 1 ∷ 2 ∷ 1 ∷ 3 ∷ 4 ∷ 1 ∷ 5 ∷ 6
      ∷ 7 ∷ 8 ∷ 1 ∷ 10 ∷ 11 ∷ 1 ∷ 12 ∷ 13
      ∷ 14 ∷ 0 ∷ 1 ∷ 2 ∷ 0 ∷ 0 ∷ 0 ∷ 0 ∷ 0 ∷ 0 ∷ 0 ∷ 0
      ∷ 16 ∷ 1 ∷ 4 ∷ 3 ∷ 0 ∷ 0 ∷ 0 ∷ 0 ∷ 0 ∷ 0 ∷ 0 ∷ 0
      ∷ 17 ∷ 0 ∷ 1 ∷ 2 ∷ 3 ∷ 4 ∷ 0 ∷ 0 ∷ 0 ∷ 0 ∷ 0 ∷ 3
      ∷ 18 ∷ 19 ∷ 20 ∷ 21 ∷ []
  -- each of ten zones has its own byte
  pub ten_zones : bytes_of (plan_table 1 [] (pose_of_ten ∷ []) [])
      ≡ 1 ∷ 0 ∷ 1 ∷ 0 ∷ 0 ∷ 0 ∷ 1 ∷ 2 ∷ 3 ∷ 4 ∷ 0 ∷ 2 ∷ 4 ∷ 1 ∷ 3 ∷ 2 ∷ []
  -- a second pose with a row for nine zones, or for eleven
  pub short_row : ¬ HasWholeRows (plan_table 1 [] (pose 0 false None None ∷ pose_of_width 9 ∷ []) [])
  pub long_row : ¬ HasWholeRows (plan_table 1 [] (pose 0 false None None ∷ pose_of_width 11 ∷ []) [])
  -- a first pose, or the one in the middle, with a row for none
  pub first_empty : ¬ HasWholeRows (plan_table 1 [] (pose_of_width 0 ∷ pose 0 false None None ∷ []) [])
  pub middle_empty
      : ¬ HasWholeRows (plan_table 1 [] (pose 0 false None None ∷ pose_of_width 0 ∷ pose 0 false None None ∷ []) [])
  pub unlike_rows : HasWholeRows unlike_table
  pub no_poses : HasWholeRows (plan_table 3 [] [] (2 ∷ 1 ∷ []))
  -- a table without rows has no bytes
  pub nothing : bytes_of (plan_table 0 [] [] []) ≡ 0 ∷ 0 ∷ 0 ∷ 0 ∷ []
  pub places_alone : bytes_of (plan_table 3 [] [] (2 ∷ 1 ∷ [])) ≡ 3 ∷ 0 ∷ 0 ∷ 2 ∷ 2 ∷ 1 ∷ []
  -- a place that is neither source nor sink, a source, a sink, and both
  pub ends : bytes_of (whole_table 30 [] []
      (kept_by 29 ∷ record { keeper = 29; source = true; sink = false }
      ∷ record { keeper = 3; source = false; sink = true } ∷ hand ∷ [])) ≡ 30 ∷ 0 ∷ 0 ∷ 4 ∷ 29 ∷ 93 ∷ 131 ∷ 192 ∷ []
  pub pose_alone : bytes_of (plan_table 5 [] (pose 4 true None (Some OpenIn) ∷ []) [])
      ≡ 5 ∷ 0 ∷ 1 ∷ 0 ∷ 4 ∷ 1 ∷ 0 ∷ 3 ∷ 0 ∷ 0 ∷ 0 ∷ 0 ∷ 0 ∷ 0 ∷ 0 ∷ 0 ∷ []
