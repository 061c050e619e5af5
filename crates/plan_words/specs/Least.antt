-- No zones are of one group without need; and the groups of literal plants.
use Rattle.std.specs.Prelude.{◌≡◌, ℕ, ◌+◌, ◌*◌, ◌<◌, Bool, true, List, [], ◌∷◌, map, None}
use Rattle.std.specs.List.{range_with_len}
use Rattle.plan_types.specs.declared.posture.Posture.TheVariants.{OpenIn}
use Rattle.plan_types.specs.Table.{PlanTable, plan_table, zone_count, pose_count, place_count, word_width, space_of}
use Rattle.plan_types.specs.Examples.{lift_table, press_table, way, zone, joined, pose_at}
use Rattle.plan_words.specs.Group.{HasZone}
use Rattle.plan_types.specs.Plan.{IsPlan}
use Rattle.plan_words.specs.Run.{IsLaidOut}
use Rattle.plan_words.specs.Groups.{IsLargePlan, word_of, labels_of, group_of, table_of, looks_at, touches}
use Rattle.plan_words.specs.Rows.{one_hand, half_moving, two_zones}

-- zones put on two sides, so that no pose, no place and no space has zones on both
pub record SplitsNone (t : PlanTable) (side : ℕ → Bool) : Type 0 where
  pub poses : (p y z : ℕ) → p < pose_count t → y < zone_count t → z < zone_count t → looks_at t p y ≡ true
      → looks_at t p z ≡ true → side y ≡ side z
  pub places : (p y z : ℕ) → p < place_count t → y < zone_count t → z < zone_count t → touches t p y ≡ true
      → touches t p z ≡ true → side y ≡ side z
  pub spaces : (y z : ℕ) → y < zone_count t → z < zone_count t → space_of t y ≡ space_of t z → side y ≡ side z

-- two zones of one group are on one side, however the sides are chosen
abbrev pub GroupsAreLeast : Type 0
GroupsAreLeast =
    (t : PlanTable) (n y z : ℕ) (side : ℕ → Bool) → HasZone (group_of t n) y → HasZone (group_of t n) z
    → SplitsNone t side → side y ≡ side z

-- a robot with a hand for each of two machines
abbrev pub two_hands : PlanTable
two_hands = plan_table 3 (zone 1 0 (way 0 2) None ∷ zone 2 0 (way 1 3) None ∷ []) [] (0 ∷ 0 ∷ 1 ∷ 2 ∷ [])

-- a line of four machines: plates go from each to the next, by one place a machine
abbrev pub line : PlanTable
line =
    plan_table 4 (zone 1 0 (way 0 1) None ∷ zone 2 1 (way 1 2) None ∷ zone 3 2 (way 2 3) None ∷ []) []
    (0 ∷ 1 ∷ 2 ∷ 3 ∷ [])

-- a machine of two zones whose poses give each one a posture by itself, none of them Moving
abbrev pub two_gates : PlanTable
two_gates =
    plan_table 3 (zone 0 1 None None ∷ zone 0 2 None None ∷ []) (pose_at 0 0 OpenIn ∷ pose_at 0 1 OpenIn ∷ []) []

-- pairs of machines, each with a zone of its own and two places
abbrev pub both : List ℕ → List ℕ
both [] = []
both (k ∷ ks) = 0 ∷ 1 ∷ both ks

abbrev pub pairs : List ℕ → PlanTable
pairs ks = plan_table 30 (map (λ k. zone 1 0 (way (2 * k) (2 * k + 1)) None) ks) [] (both ks)

abbrev pub twelve_pairs : PlanTable
twelve_pairs = pairs (range_with_len 0 12)

-- two spaces that no pose joins and no plate: an aisle that two shuttles cross, and a gate. The space is one group, and
-- its rows keep their order
abbrev pub aisle_and_gate : PlanTable
aisle_and_gate =
    plan_table 3
    (zone 0 1 None None ∷ zone 1 0 None None ∷ joined (zone 1 2 None None) ∷ zone 2 0 None None ∷ []) [] []

-- the label of each zone: zones of one label are a group
pub record GroupsAreRight : Type 0 where
  pub press : labels_of press_table ≡ 0 ∷ []
  -- by a pose that moves both
  pub lift : labels_of lift_table ≡ 0 ∷ 0 ∷ []
  -- by a pose that moves one: its machine has to hold the other too
  pub half_moving : labels_of half_moving ≡ 0 ∷ 0 ∷ []
  pub two_gates : labels_of two_gates ≡ 0 ∷ 1 ∷ []
  -- by a hand that gives to both; by two hands they aren't joined
  pub one_hand : labels_of one_hand ≡ 0 ∷ 0 ∷ []
  pub two_hands : labels_of two_hands ≡ 0 ∷ 1 ∷ []
  -- along a line each place joins the zones before it and after it: the whole line is one group
  pub line : labels_of line ≡ 0 ∷ 0 ∷ 0 ∷ []
  pub apart : labels_of two_zones ≡ 0 ∷ 1 ∷ []
  pub space : labels_of aisle_and_gate ≡ 0 ∷ 1 ∷ 1 ∷ 3 ∷ []
  pub space_zones : (group_of aisle_and_gate 1).zones ≡ 1 ∷ 2 ∷ []
  pub space_table : table_of aisle_and_gate (group_of aisle_and_gate 1)
      ≡ plan_table 3 (zone 1 0 None None ∷ joined (zone 1 2 None None) ∷ []) [] []
  pub twelve : labels_of twelve_pairs ≡ range_with_len 0 12
  -- on one word twelve pairs need 81 bits, and each on its own 26
  pub too_wide : word_width twelve_pairs ≡ 81
  pub each_fits : map (λ n. word_width (table_of twelve_pairs (group_of twelve_pairs n))) (range_with_len 0 12)
      ≡ map (λ n. 26) (range_with_len 0 12)
  pub last_zone : (group_of twelve_pairs 11).zones ≡ 11 ∷ []
  pub last_places : (group_of twelve_pairs 11).places ≡ 22 ∷ 23 ∷ []
  pub last_table : table_of twelve_pairs (group_of twelve_pairs 11)
      ≡ plan_table 30 (zone 1 0 (way 0 1) None ∷ []) [] (0 ∷ 1 ∷ [])

-- twelve pairs are a large plan, which isn't a plan of one word, and are laid out on words: the last one has nothing
pub record TwelvePairs : Type 0 where
  pub large : IsLargePlan twelve_pairs
  pub no_plan : ¬ IsPlan twelve_pairs
  pub laid_out : IsLaidOut twelve_pairs 13 (word_of twelve_pairs)
