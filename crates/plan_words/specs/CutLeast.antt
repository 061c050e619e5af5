-- The groups of literal plants whose places are cut; and a plant of forty zones.
use Rattle.std.specs.Prelude.{◌≡◌, ℕ, ◌+◌, ◌%◌, ◌<◌, true, false, [], ◌∷◌, map, None}
use Rattle.std.specs.List.{range_with_len}
use Rattle.plan_types.specs.declared.posture.Posture.TheVariants.{Closed, Moving, OpenIn, OpenOut}
use Rattle.plan_types.specs.Table.{PlanTable, plan_table, word_width}
use Rattle.plan_types.specs.Examples.{way, zone, pose_at, pose_after_moving, pose_of_two, lathe_table, lift_table}
use Rattle.plan_types.specs.Plan.{IsPlan}
use Rattle.plan_words.specs.Groups.{IsLargePlan, labels_of, group_of, table_of, word_of}
use Rattle.plan_words.specs.Run.{IsLaidOut}
use Rattle.plan_words.specs.Rows.{one_hand}
use Rattle.plan_words.specs.CutRows.{takes_from_two}
use Rattle.plan_words.specs.CutTable.{cut_table, all_places}

abbrev pub all_cut : PlanTable → PlanTable
all_cut t = cut_table t all_places

-- as the cell: a feed, 0, a table, 1, a robot with two arms, 2, a press, 3, a deposit, 4, and a crane, 5. The table
-- gives both its zones a posture, and so does the deposit
abbrev pub cell_like : PlanTable
cell_like =
    plan_table 6
    (zone 1 0 (way 1 2) None ∷ zone 1 2 None (way 2 3) ∷ zone 3 2 (way 3 4) (way 5 6) ∷ zone 4 2 (way 6 7) None
    ∷ zone 4 5 None (way 8 9) ∷ zone 0 5 (way 9 0) None ∷ [])
    (pose_of_two 1 false 0 Moving Moving ∷ pose_of_two 1 true 0 OpenIn Closed ∷ pose_of_two 1 true 0 Closed OpenOut
    ∷ pose_at 3 2 Moving ∷ pose_after_moving 3 2 OpenIn ∷ pose_after_moving 3 2 OpenOut ∷ pose_after_moving 3 2 Closed
    ∷ pose_at 0 5 Moving ∷ pose_at 0 5 OpenIn ∷ pose_at 0 5 Closed ∷ pose_of_two 4 false 3 Moving Moving
    ∷ pose_of_two 4 false 3 OpenIn OpenOut ∷ pose_of_two 4 false 3 Closed Closed ∷ [])
    (0 ∷ 0 ∷ 1 ∷ 2 ∷ 3 ∷ 3 ∷ 2 ∷ 4 ∷ 4 ∷ 5 ∷ [])

-- a line: plates go from each station to the next, by one place a station, and each one opens the zone before it

abbrev pub line_of : (ℕ → ℕ) → ℕ → ℕ → PlanTable
line_of machine machines zones =
    plan_table machines (map (λ z. zone (machine (z + 1)) (machine z) (way z (z + 1)) None) (range_with_len 0 zones))
    (map (λ z. pose_at (machine (z + 1)) z OpenIn) (range_with_len 0 zones))
    (map machine (range_with_len 0 (zones + 1)))

abbrev pub twenty_stations : PlanTable
twenty_stations = line_of (λ k. k) 20 19

-- a robot with one hand, 0, takes plates from a belt, 4, to three machines, and from these to another belt, 5
abbrev pub tending : PlanTable
tending =
    plan_table 6
    (zone 1 0 (way 0 1) (way 1 0) ∷ zone 2 0 (way 0 2) (way 2 0) ∷ zone 3 0 (way 0 3) (way 3 0)
    ∷ zone 4 0 None (way 4 0) ∷ zone 5 0 (way 0 5) None ∷ [])
    [] (0 ∷ 1 ∷ 2 ∷ 3 ∷ 4 ∷ 5 ∷ [])

-- the label of each zone, once all places are cut: by poses alone
pub record GroupsWhenCut : Type 0 where
  pub cell_whole : labels_of cell_like ≡ 0 ∷ 0 ∷ 0 ∷ 0 ∷ 0 ∷ 0 ∷ []
  pub cell : labels_of (all_cut cell_like) ≡ 0 ∷ 0 ∷ 2 ∷ 3 ∷ 3 ∷ 5 ∷ []
  pub cell_widths : map (λ n. word_width (table_of (all_cut cell_like) (group_of (all_cut cell_like) n)))
      (0 ∷ 2 ∷ 3 ∷ 5 ∷ [])
      ≡ 35 ∷ 30 ∷ 35 ∷ 28 ∷ []
  pub lathe_whole : labels_of lathe_table ≡ 0 ∷ 0 ∷ 0 ∷ 0 ∷ []
  pub lathe : labels_of (all_cut lathe_table) ≡ 0 ∷ 0 ∷ 2 ∷ 2 ∷ []
  pub lift : labels_of (all_cut lift_table) ≡ 0 ∷ 0 ∷ []
  pub twenty_whole : labels_of twenty_stations ≡ map (λ z. 0) (range_with_len 0 19)
  pub twenty : labels_of (all_cut twenty_stations) ≡ range_with_len 0 19
  pub one_hand : labels_of (all_cut one_hand) ≡ 0 ∷ 1 ∷ []
  pub takes_from_two : labels_of (all_cut takes_from_two) ≡ 0 ∷ 1 ∷ []
  pub tending_whole : labels_of tending ≡ 0 ∷ 0 ∷ 0 ∷ 0 ∷ 0 ∷ []
  pub tending : labels_of (all_cut tending) ≡ 0 ∷ 1 ∷ 2 ∷ 3 ∷ 4 ∷ []

-- forty zones of thirty machines, in a ring that goes round more than once: no plan of one word; with all places
-- cut each zone is on a word of its own
abbrev pub forty_zones : PlanTable
forty_zones = line_of (λ k. k % 30) 30 40

pub record FortyZones : Type 0 where
  pub whole_labels : labels_of forty_zones ≡ map (λ z. 0) (range_with_len 0 40)
  pub labels : labels_of (all_cut forty_zones) ≡ range_with_len 0 40
  pub large : IsLargePlan forty_zones
  pub no_plan : ¬ IsPlan forty_zones
  pub laid_out : IsLaidOut (all_cut forty_zones) 41 (word_of (all_cut forty_zones))
  -- each word of a zone needs 27 bits
  pub width : (n : ℕ) → n < 40 → word_width (table_of (all_cut forty_zones) (group_of (all_cut forty_zones) n)) ≡ 27
