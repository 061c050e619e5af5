-- The plan of the cell, written out.
use Rattle.std.specs.Prelude.{ℕ, Bool, true, false, List, [], ◌∷◌, Option, Some, None}
use Rattle.plan_types.specs.declared.posture.Posture.{Posture}
use Rattle.plan_types.specs.declared.posture.Posture.TheVariants.{Closed, Moving, OpenIn, OpenOut}
use Rattle.plan_types.specs.declared.table.PlanZone.{PlanZone}
use Rattle.plan_types.specs.declared.table.PlanPose.{PlanPose}
use Rattle.plan_types.specs.Table.{PlanTable, plan_table}
use Rattle.plan_types.specs.Examples.{way, zone}

-- machines: 0 feed, 1 table, 2 robot, 3 press, 4 deposit, 5 crane
-- places: 0 feed's entry and 1 its end; 2 table; 3 arm 1; 4 press, not forged, and 5 forged; 6 arm 2; 7 deposit's entry
-- and 8 its end; 9 crane
abbrev pub cell_zones : List PlanZone
cell_zones =
    zone 1 0 (way 1 2) None ∷ zone 1 2 None (way 2 3) ∷ zone 3 2 (way 3 4) (way 5 6)
    ∷ zone 4 2 (way 6 7) None ∷ zone 4 5 None (way 8 9) ∷ zone 0 5 (way 9 0) None ∷ []

abbrev pub cell_places : List ℕ
cell_places = 0 ∷ 0 ∷ 1 ∷ 2 ∷ 3 ∷ 3 ∷ 2 ∷ 4 ∷ 4 ∷ 5 ∷ []

-- a pose, by what it gives z1, z2, z3, z4, z5, z6
abbrev pub posed : ℕ → Bool → Option Posture → Option Posture → Option Posture → Option Posture → Option Posture
    → Option Posture → PlanPose
posed machine after_moving a b c d e f = record {
  machine = machine;
  after_moving = after_moving;
  gives = a ∷ b ∷ c ∷ d ∷ e ∷ f ∷ None ∷ None ∷ None ∷ None ∷ [];
}

abbrev pub table_pose : Bool → Posture → Posture → PlanPose
table_pose after_moving a b = posed 1 after_moving (Some a) (Some b) None None None None

abbrev pub press_pose : Bool → Posture → PlanPose
press_pose after_moving c = posed 3 after_moving None None (Some c) None None None

abbrev pub feed_pose : Posture → PlanPose
feed_pose f = posed 0 false None None None None None (Some f)

abbrev pub deposit_pose : Posture → Posture → PlanPose
deposit_pose d e = posed 4 false None None None (Some d) (Some e) None

-- turning, loading, unloading; travelling, middle, low, top; feed running, landing, halted; deposit running, landing,
-- offering, standing, halted
abbrev pub cell_poses : List PlanPose
cell_poses =
    table_pose false Moving Moving ∷ table_pose true OpenIn Closed ∷ table_pose true Closed OpenOut
    ∷ press_pose false Moving ∷ press_pose true OpenIn ∷ press_pose true OpenOut ∷ press_pose true Closed
    ∷ feed_pose Moving ∷ feed_pose OpenIn ∷ feed_pose Closed
    ∷ deposit_pose Moving Moving ∷ deposit_pose OpenIn Closed ∷ deposit_pose Closed OpenOut
    ∷ deposit_pose OpenIn OpenOut ∷ deposit_pose Closed Closed ∷ []

abbrev pub cell_table : PlanTable
cell_table = plan_table 6 cell_zones cell_poses cell_places
