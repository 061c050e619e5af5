-- What holds of groups that share words, and the words of literal plants.
use Rattle.std.specs.Prelude.{◌≡◌, ℕ, ◌<◌, ◌≤◌, List, [], ◌∷◌, ◌++◌, length, map, get_or, None}
use Rattle.std.specs.List.{range_with_len}
use Rattle.plan_types.specs.declared.table.PlanPose.{PlanPose}
use Rattle.plan_types.specs.Table.{PlanTable, whole_table, plan_table, zone_count, pose_count, place_count, pose_row}
use Rattle.plan_types.specs.Examples.{zone}
use Rattle.plan_types.specs.Plan.{IsPlan}
use Rattle.plan_words.specs.Group.{Group}
use Rattle.plan_words.specs.Groups.{IsLargePlan, Fits}
use Rattle.plan_words.specs.Run.{Word}
use Rattle.plan_words.specs.Plant.{together, first_room, sharers, words_of}
use Rattle.plan_words.specs.Least.{twelve_pairs}

-- a group fits its word; no word before it had room for the group
pub record GoesFirst (t : PlanTable) (n : ℕ) (words : List (List ℕ)) : Type 0 where
  pub at_most : first_room t n words ≤ length words
  pub room : first_room t n words < length words
      → Fits t (together t (get_or words (first_room t n words) [] ++ n ∷ []))
  pub none_before : (k : ℕ) → k < first_room t n words → ¬ Fits t (together t (get_or words k [] ++ n ∷ []))

abbrev pub GroupsGoFirst : Type 0
GroupsGoFirst = (t : PlanTable) (n : ℕ) (words : List (List ℕ)) → GoesFirst t n words

-- no two words of a plant would fit one
abbrev pub NoTwoFit : Type 0
NoTwoFit =
    (t : PlanTable) → IsLargePlan t → (j k : ℕ) → j < k → k < length (sharers t)
    → ¬ Fits t (together t (get_or (sharers t) j [] ++ get_or (sharers t) k []))

-- all rows of a plant, by the plant's own numbers
abbrev pub all_rows : PlanTable → Group
all_rows t = record {
  zones = range_with_len 0 (zone_count t);
  poses = range_with_len 0 (pose_count t);
  places = range_with_len 0 (place_count t);
}

-- a pose's row with the ten zones of a plan
abbrev pub ten_wide : PlanPose → PlanPose
ten_wide row = record {
  machine = row.machine;
  after_moving = row.after_moving;
  gives = map (λ z. get_or row.gives z None) (range_with_len 0 10);
}

abbrev pub own_table : PlanTable → PlanTable
own_table t = whole_table t.machines t.zones (map ten_wide t.poses) t.places

abbrev pub whole_word : PlanTable → Word
whole_word t = record { group = all_rows t; table = own_table t }

-- a plan is on one word: its table is the plan's own, and its numbers are the plan's
pub record PlansStay : Type 0 where
  pub one_word : (t : PlanTable) → IsLargePlan t → IsPlan t → words_of t ≡ whole_word t ∷ []
  pub own : (t : PlanTable) → ((p : ℕ) → p < pose_count t → length (pose_row t p).gives ≡ 10) → own_table t ≡ t

-- forty zones of two machines, which nothing joins
abbrev pub forty_gates : PlanTable
forty_gates = plan_table 2 (map (λ z. zone 0 1 None None) (range_with_len 0 40)) [] []

-- the groups of each word. Nothing is loose: the last group has nothing, and is on the first word
pub record WordsAreRight : Type 0 where
  -- eight pairs need 61 bits, and sixteen places
  pub twelve : sharers twelve_pairs ≡ (0 ∷ 1 ∷ 2 ∷ 3 ∷ 4 ∷ 5 ∷ 6 ∷ 7 ∷ 12 ∷ []) ∷ (8 ∷ 9 ∷ 10 ∷ 11 ∷ []) ∷ []
  -- ten zones are the most of a word
  pub forty : sharers forty_gates
      ≡ (range_with_len 0 10 ++ 40 ∷ []) ∷ range_with_len 10 10 ∷ range_with_len 20 10 ∷ range_with_len 30 10 ∷ []
