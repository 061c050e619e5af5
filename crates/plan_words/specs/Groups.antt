-- The groups of a plan, computed: each pose, and each place, joins the zones that it needs on one word; and so does a
-- space. Groups may share a word.
use Rattle.std.specs.Prelude.{◌≡◌, ◌≢◌, ℕ, suc, ◌+◌, ◌-◌, ◌<◌, ◌≤◌, Bool, false, ◌&&◌, ◌||◌, nat_eq, List, [], ◌∷◌}
use Rattle.std.specs.Prelude.{◌++◌, length, map, filter}
use Rattle.std.specs.Prelude.{get_or, Option, Some, None, option_map, is_some, IsTrue, if◌then◌else◌}
use Rattle.std.specs.List.{range_with_len, list_any}
use Rattle.plan_types.specs.declared.posture.Posture.{Posture}
use Rattle.plan_types.specs.declared.table.Way.{Way}
use Rattle.plan_types.specs.declared.table.PlanZone.{PlanZone}
use Rattle.plan_types.specs.declared.table.PlanPose.{PlanPose}
use Rattle.plan_types.specs.Table.{PlanTable, whole_table, zone_count, pose_count, place_count, host_of, guest_of}
use Rattle.plan_types.specs.Table.{machine_of, zone_row, pose_row, place_row, keeper_of, posture_of, is_moving_pose}
use Rattle.plan_types.specs.Table.{word_width}
use Rattle.plan_types.specs.Table.{joins, space_of}
use Rattle.plan_types.specs.Plan.{leads, is_alike}
use Rattle.plan_types.specs.Kept.{filled}
use Rattle.plan_words.specs.Group.{Group, past}
use Rattle.plan_words.specs.Run.{Word}

-- a plan of any size: the rules of a plan, without its limits
pub record IsLargePlan (t : PlanTable) : Type 0 where
  pub keeper_is_machine : (p : ℕ) → p < place_count t → keeper_of t p < t.machines
  pub host_is_machine : (z : ℕ) → z < zone_count t → host_of t z < t.machines
  pub guest_is_machine : (z : ℕ) → z < zone_count t → guest_of t z < t.machines
  pub host_is_not_guest : (z : ℕ) → z < zone_count t → host_of t z ≢ guest_of t z
  pub inward_to_host : (z : ℕ) → z < zone_count t
      → IsTrue (leads t (guest_of t z) (host_of t z) (zone_row t z).inward)
  pub outward_to_guest : (z : ℕ) → z < zone_count t
      → IsTrue (leads t (host_of t z) (guest_of t z) (zone_row t z).outward)
  pub pose_of_machine : (p : ℕ) → p < pose_count t → machine_of t p < t.machines
  pub pose_of_host : (p z : ℕ) (q : Posture) → p < pose_count t → posture_of t p z ≡ Some q
      → (z < zone_count t) × (host_of t z ≡ machine_of t p)
  pub one_host_a_space : (z : ℕ) → z < zone_count t → host_of t (space_of t z) ≡ host_of t z
  pub guests_differ : (y z : ℕ) → y < z → z < zone_count t → space_of t y ≡ space_of t z → guest_of t y ≢ guest_of t z
  pub space_moves_whole : (p z : ℕ) → p < pose_count t → z < zone_count t
      → IsTrue (is_alike (posture_of t p (space_of t z)) (posture_of t p z))

-- the zones that a pose looks at, and those whose ways touch a place
abbrev pub looks_at : PlanTable → ℕ → ℕ → Bool
looks_at t p z =
    is_some (posture_of t p z)
    || (is_moving_pose t p || (pose_row t p).after_moving) && nat_eq (host_of t z) (machine_of t p)

abbrev pub is_end : Option Way → ℕ → Bool
is_end None p = false
is_end (Some w) p = nat_eq w.from p || nat_eq w.to p

abbrev pub touches : PlanTable → ℕ → ℕ → Bool
touches t p z = is_end (zone_row t z).inward p || is_end (zone_row t z).outward p

abbrev pub zones_of : PlanTable → (ℕ → Bool) → List ℕ
zones_of t test = filter test (range_with_len 0 (zone_count t))

-- a zone that is of one space with the zone before it
abbrev pub with_space : PlanTable → ℕ → List ℕ
with_space t z = if joins t (suc z) then z ∷ suc z ∷ [] else []

-- what each pose joins, each place, and each zone with the next one
abbrev pub by_poses : PlanTable → List (List ℕ)
by_poses t = map (λ p. zones_of t (looks_at t p)) (range_with_len 0 (pose_count t))

abbrev pub by_places : PlanTable → List (List ℕ)
by_places t = map (λ p. zones_of t (touches t p)) (range_with_len 0 (place_count t))

abbrev pub by_spaces : PlanTable → List (List ℕ)
by_spaces t = map (with_space t) (range_with_len 0 (zone_count t - 1))

abbrev pub joined : PlanTable → List (List ℕ)
joined t = by_poses t ++ by_places t ++ by_spaces t

-- Each zone has a label; zones of one label are one group. Where zones are joined, all labels among them become that of
-- the first one
abbrev pub label_of : List ℕ → ℕ → ℕ
label_of labels z = get_or labels z past

abbrev pub merged : List ℕ → List ℕ → List ℕ
merged labels [] = labels
merged labels (z ∷ zones) =
    map (λ l. if list_any (λ y. nat_eq (label_of labels y) l) (z ∷ zones) then label_of labels z else l) labels

abbrev pub all_merged : List ℕ → List (List ℕ) → List ℕ
all_merged labels [] = labels
all_merged labels (zones ∷ more) = all_merged (merged labels zones) more

abbrev pub labels_of : PlanTable → List ℕ
labels_of t = all_merged (range_with_len 0 (zone_count t)) (joined t)

-- the label of what joins these zones: the first one's; what joins none has the last label, which no zone has
abbrev pub label_for : PlanTable → List ℕ → ℕ
label_for t [] = zone_count t
label_for t (z ∷ zones) = label_of (labels_of t) z

-- the zones, poses and places whose label passes a test
abbrev pub labelled : PlanTable → (ℕ → Bool) → Group
labelled t own = record {
  zones = zones_of t (λ z. own (label_of (labels_of t) z));
  poses = filter (λ p. own (label_for t (zones_of t (looks_at t p)))) (range_with_len 0 (pose_count t));
  places = filter (λ p. own (label_for t (zones_of t (touches t p)))) (range_with_len 0 (place_count t));
}

-- the group of a label, maybe an empty one
abbrev pub group_of : PlanTable → ℕ → Group
group_of t n = labelled t (λ l. nat_eq l n)

-- the number in the group of a place of the plan: how many come before it
abbrev pub number_in : List ℕ → ℕ → ℕ
number_in [] n = 0
number_in (x ∷ xs) n = if nat_eq x n then 0 else 1 + number_in xs n

abbrev pub way_in : Group → Way → Way
way_in g w = record { from = number_in g.places w.from; to = number_in g.places w.to }

abbrev pub zone_in : PlanTable → Group → ℕ → PlanZone
zone_in t g z = record {
  host = host_of t z;
  guest = guest_of t z;
  joins = joins t z;
  inward = option_map (way_in g) (zone_row t z).inward;
  outward = option_map (way_in g) (zone_row t z).outward;
}

abbrev pub pose_in : PlanTable → Group → ℕ → PlanPose
pose_in t g p = record {
  machine = machine_of t p;
  after_moving = (pose_row t p).after_moving;
  gives = filled (map (posture_of t p) g.zones) None 10;
}

-- the tables of a group: the machines of the plan, and the group's rows alone
abbrev pub table_of : PlanTable → Group → PlanTable
table_of t g =
    whole_table t.machines (map (zone_in t g) g.zones) (map (pose_in t g) g.poses) (map (place_row t) g.places)

abbrev pub word_of : PlanTable → ℕ → Word
word_of t n = record { group = group_of t n; table = table_of t (group_of t n) }

-- a group fits a word
pub record Fits (t : PlanTable) (g : Group) : Type 0 where
  pub machines : t.machines ≤ 30
  pub zones : length g.zones ≤ 10
  pub poses : length g.poses ≤ 64
  pub places : length g.places ≤ 16
  pub width : word_width (table_of t g) ≤ 64
