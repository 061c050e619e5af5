-- A group of a plan: zones that share a word, with the poses and the places that go with them.
use Rattle.std.specs.Prelude.{◌≡◌, ◌⊎◌, ℕ, ◌<◌, true, List, length, get_or}
use Rattle.std.specs.Prelude.{Some, option_map}
use Rattle.plan_types.specs.declared.posture.Posture.{Posture}
use Rattle.plan_types.specs.declared.table.Way.{Way}
use Rattle.plan_types.specs.declared.table.PlanZone.{PlanZone}
use Rattle.plan_types.specs.declared.table.Transfer.{Transfer}
use Rattle.plan_types.specs.Table.{PlanTable, zone_count, pose_count, place_count, host_of, machine_of}
use Rattle.plan_types.specs.Table.{zone_row, pose_row, place_row, posture_of, transfer_of, is_moving_pose, space_of}

-- their numbers in the plan, which rise; a number of the group is a place in these lists
pub record Group : Type 0 where
  pub zones : List ℕ
  pub poses : List ℕ
  pub places : List ℕ

-- the number in the plan of the group's zone, pose or place. None stands past the end: a number that no plan has
abbrev pub past : ℕ
past = 255

abbrev pub zone_out : Group → ℕ → ℕ
zone_out g i = get_or g.zones i past

abbrev pub pose_out : Group → ℕ → ℕ
pose_out g k = get_or g.poses k past

abbrev pub place_out : Group → ℕ → ℕ
place_out g j = get_or g.places j past

-- a zone, a pose or a place of the plan is one of the group's
abbrev pub HasZone : Group → ℕ → Type 0
HasZone g z = (i : ℕ) × (i < length g.zones) × (zone_out g i ≡ z)

abbrev pub HasPose : Group → ℕ → Type 0
HasPose g p = (k : ℕ) × (k < length g.poses) × (pose_out g k ≡ p)

abbrev pub HasPlace : Group → ℕ → Type 0
HasPlace g p = (j : ℕ) × (j < length g.places) × (place_out g j ≡ p)

-- numbers that rise, each of them below a bound
pub record Rises (numbers : List ℕ) (bound : ℕ) : Type 0 where
  pub rises : (i j : ℕ) → i < j → j < length numbers → get_or numbers i past < get_or numbers j past
  pub below : (i : ℕ) → i < length numbers → get_or numbers i past < bound

-- a pose looks at a zone: it gives it a posture; or it moves, or comes only after moving, and its machine hosts the
-- zone
abbrev pub LooksAt : PlanTable → ℕ → ℕ → Type 0
LooksAt t p z =
    ((q : Posture) × (posture_of t p z ≡ Some q))
    ⊎ (((is_moving_pose t p ≡ true) ⊎ ((pose_row t p).after_moving ≡ true)) × (host_of t z ≡ machine_of t p))

-- a way of a plate through a zone, inward or outward, starts or ends at a place
abbrev pub Touches : PlanTable → ℕ → ℕ → Type 0
Touches t z p = (q : Posture) × (way : Transfer) × (transfer_of t z q ≡ Some way) × ((way.from ≡ p) ⊎ (way.to ≡ p))

-- what shares a word: a group with a pose has each zone that the pose looks at; with a place, each zone whose ways
-- touch it; with a zone, each place that its ways touch, and each zone of its space
pub record IsGroup (t : PlanTable) (g : Group) : Type 0 where
  pub zones : Rises g.zones (zone_count t)
  pub poses : Rises g.poses (pose_count t)
  pub places : Rises g.places (place_count t)
  pub by_pose : (p z : ℕ) → HasPose g p → z < zone_count t → LooksAt t p z → HasZone g z
  pub by_place : (p z : ℕ) → HasPlace g p → z < zone_count t → Touches t z p → HasZone g z
  pub by_way : (z p : ℕ) → HasZone g z → Touches t z p → HasPlace g p
  pub by_space : (y z : ℕ) → HasZone g z → y < zone_count t → space_of t y ≡ space_of t z → HasZone g y

-- a way by the plan's numbers of the group's places
abbrev pub way_out : Group → Way → Way
way_out g w = record { from = place_out g w.from; to = place_out g w.to }

abbrev pub zone_row_out : Group → PlanZone → PlanZone
zone_row_out g row = record {
  host = row.host;
  guest = row.guest;
  joins = row.joins;
  inward = option_map (way_out g) row.inward;
  outward = option_map (way_out g) row.outward;
}

-- tables of the group alone: the plan's machines, and the group's rows by the group's numbers
pub record IsTableOf (t : PlanTable) (g : Group) (u : PlanTable) : Type 0 where
  pub machines : u.machines ≡ t.machines
  pub zone_count : zone_count u ≡ length g.zones
  pub pose_count : pose_count u ≡ length g.poses
  pub place_count : place_count u ≡ length g.places
  pub zone : (i : ℕ) → i < length g.zones → zone_row t (zone_out g i) ≡ zone_row_out g (zone_row u i)
  pub machine : (k : ℕ) → k < length g.poses → machine_of t (pose_out g k) ≡ machine_of u k
  pub after_moving : (k : ℕ) → k < length g.poses
      → (pose_row t (pose_out g k)).after_moving ≡ (pose_row u k).after_moving
  pub gives : (k i : ℕ) → k < length g.poses → i < length g.zones
      → posture_of t (pose_out g k) (zone_out g i) ≡ posture_of u k i
  pub moves : (k : ℕ) → k < length g.poses → is_moving_pose t (pose_out g k) ≡ is_moving_pose u k
  pub place : (j : ℕ) → j < length g.places → place_row t (place_out g j) ≡ place_row u j
