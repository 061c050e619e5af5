-- What each fault of a plant says.
use Rattle.std.specs.Prelude.{◌≡◌, ℕ, ◌<◌, ◌≤◌, nat_le, List, [], ◌∷◌, length, get_or, Option, Some, slice_get}
use Rattle.plan_types.specs.declared.fault.PlanFault.{PlanFault}
use Rattle.plan_types.specs.declared.fault.PlanFault.TheVariants.{TooManyZones, TooManyPoses, TooManyPlaces}
use Rattle.plan_types.specs.Table.{PlanTable, zone_count, pose_count, place_count}
use Rattle.plan_types.specs.Faults.{◌or◌, unless, plan_fault}
use Rattle.plan_words.specs.declared.fault.Limit.{Limit}
use Rattle.plan_words.specs.declared.fault.Limit.TheVariants.{Machines, Zones, Poses, Places, Words}
use Rattle.plan_words.specs.declared.fault.PlantFault.{PlantFault}
use Rattle.plan_words.specs.declared.fault.PlantFault.TheVariants.{TooMany, OfRow, OfWord, OutOfMemory}
use Rattle.plan_words.specs.Group.{Group, past}
use Rattle.plan_words.specs.Groups.{table_of}
use Rattle.plan_words.specs.Plant.{row_fault, group_labels, together, sharers}

-- the plant has more than it may have
abbrev pub Exceeds : PlanTable → Limit → Type 0
Exceeds t Machines = 30 < t.machines
Exceeds t Zones = 40 < zone_count t
Exceeds t Poses = 255 < pose_count t
Exceeds t Places = 255 < place_count t
Exceeds t Words = 16 < length (sharers t)

-- a group has no more rows than a word may have
pub record FitsWord (g : Group) : Type 0 where
  pub zones : length g.zones ≤ 10
  pub poses : length g.poses ≤ 64
  pub places : length g.places ≤ 16

-- the first fault of a group's counts
abbrev pub count_fault : Group → Option PlanFault
count_fault g =
    unless (nat_le (length g.zones) 10) TooManyZones
    or unless (nat_le (length g.poses) 64) TooManyPoses
    or unless (nat_le (length g.places) 16) TooManyPlaces

-- what shares a word, named by its first zone, is no plan
abbrev pub IsWordFault : PlanTable → List ℕ → PlantFault → Type 0
IsWordFault t labels (OfWord zone fault) =
    (zone ≡ slice_get (together t labels).zones 0) × (plan_fault (table_of t (together t labels)) ≡ Some fault)
IsWordFault t labels OutOfMemory = Unit {0}
IsWordFault t labels (TooMany limit) = ⊥
IsWordFault t labels (OfRow fault) = ⊥

-- one of these groups doesn't fit a word of its own
abbrev pub IsFaultOfSome : PlanTable → List ℕ → PlantFault → Type 0
IsFaultOfSome t labels fault = (n : ℕ) × (n < length labels) × IsWordFault t (get_or labels n past ∷ []) fault

abbrev pub Says : PlanTable → PlantFault → Type 0
Says t (TooMany limit) = Exceeds t limit
Says t (OfRow fault) = row_fault t ≡ Some fault
Says t (OfWord zone fault) = IsFaultOfSome t (group_labels t) (OfWord zone fault)
Says t OutOfMemory = Unit {0}
