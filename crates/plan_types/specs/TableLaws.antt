-- Laws of all tables: what is read of a row, which way a plate goes, which poses move, and the rules of a plan again,
-- on the rows themselves.
use Rattle.std.specs.Prelude.{◌≡◌, ◌↔◌, ◌⊎◌, ℕ, suc, ◌+◌, ◌<◌, ◌≤◌, true, false, List, ◌∷◌, ◌++◌, length, get_or, All}
use Rattle.std.specs.Prelude.{IsTrue}
use Rattle.std.specs.Prelude.{Option, Some, None}
use Rattle.plan_types.specs.Below.{sum_below}
use Rattle.plan_types.specs.declared.posture.Posture.{Posture}
use Rattle.plan_types.specs.declared.posture.Posture.TheVariants.{Closed, Moving, OpenIn, OpenOut}
use Rattle.plan_types.specs.declared.table.Way.{Way}
use Rattle.plan_types.specs.declared.table.PlanZone.{PlanZone}
use Rattle.plan_types.specs.declared.table.PlanPose.{PlanPose}
use Rattle.plan_types.specs.declared.table.PlanPlace.{PlanPlace}
use Rattle.plan_types.specs.Table.{PlanTable, whole_table, zone_row, pose_row, place_row, posture_of, is_moving_pose}
use Rattle.plan_types.specs.Table.{no_place, has_end}
use Rattle.plan_types.specs.Table.{transfer_of, no_zone, no_pose, has_pose, is_hosted, is_party, is_place_of}
use Rattle.plan_types.specs.Table.{is_given, zone_shape, zone_bits, word_width, joins, space_of, flag_bits}
use Rattle.plan_types.specs.Table.{posture_bits}
use Rattle.plan_types.specs.Table.{postures_of, host_of, guest_of}
use Rattle.plan_types.specs.Plan.{IsPlan, is_alike}
use Rattle.plan_types.specs.Examples.{way, zone}
use Rattle.plan_types.specs.Readings.{transfer}

-- tables, with rows and then one more before their own zones, poses or places
abbrev pub with_zone : PlanTable → List PlanZone → PlanZone → PlanTable
with_zone t rows row = whole_table t.machines (rows ++ row ∷ t.zones) t.poses t.places

abbrev pub with_pose : PlanTable → List PlanPose → PlanPose → PlanTable
with_pose t rows row = whole_table t.machines t.zones (rows ++ row ∷ t.poses) t.places

abbrev pub with_place : PlanTable → List PlanPlace → PlanPlace → PlanTable
with_place t rows row = whole_table t.machines t.zones t.poses (rows ++ row ∷ t.places)

-- a row's number is how many rows come before it; from the table's length on there is none
pub record RowsByNumber : Type 0 where
  pub zone : (t : PlanTable) (rows : List PlanZone) (row : PlanZone)
      → zone_row (with_zone t rows row) (length rows) ≡ row
  pub pose : (t : PlanTable) (rows : List PlanPose) (row : PlanPose)
      → pose_row (with_pose t rows row) (length rows) ≡ row
  pub place : (t : PlanTable) (rows : List PlanPlace) (row : PlanPlace)
      → place_row (with_place t rows row) (length rows) ≡ row
  pub zone_past_the_end : (t : PlanTable) (z : ℕ) → length t.zones ≤ z → zone_row t z ≡ no_zone
  pub pose_past_the_end : (t : PlanTable) (p : ℕ) → length t.poses ≤ p → pose_row t p ≡ no_pose
  pub place_past_the_end : (t : PlanTable) (p : ℕ) → length t.places ≤ p → place_row t p ≡ no_place

-- OpenIn gives a plate's way inward, from the guest to the host; OpenOut its way outward, from the host to the guest;
-- there is none in another posture, none by a row without that way, and none through a zone past the table's end
pub record TransfersByRow : Type 0 where
  pub inward : (t : PlanTable) (rows : List PlanZone) (host guest from to : ℕ) (outward : Option Way)
      → transfer_of (with_zone t rows (zone host guest (way from to) outward)) (length rows) OpenIn
      ≡ transfer guest host from to
  pub outward : (t : PlanTable) (rows : List PlanZone) (host guest from to : ℕ) (inward : Option Way)
      → transfer_of (with_zone t rows (zone host guest inward (way from to))) (length rows) OpenOut
      ≡ transfer host guest from to
  pub no_inward : (t : PlanTable) (rows : List PlanZone) (host guest : ℕ) (outward : Option Way)
      → transfer_of (with_zone t rows (zone host guest None outward)) (length rows) OpenIn ≡ None
  pub no_outward : (t : PlanTable) (rows : List PlanZone) (host guest : ℕ) (inward : Option Way)
      → transfer_of (with_zone t rows (zone host guest inward None)) (length rows) OpenOut ≡ None
  pub closed : (t : PlanTable) (z : ℕ) → transfer_of t z Closed ≡ None
  pub moving : (t : PlanTable) (z : ℕ) → transfer_of t z Moving ≡ None
  pub past_the_end : (t : PlanTable) (z : ℕ) (q : Posture) → length t.zones ≤ z → transfer_of t z q ≡ None

-- a pose moves exactly if it gives some zone Moving; and what it gives a zone stands at the zone's number in its row
pub record PosesByZone : Type 0 where
  pub moves : (t : PlanTable) (p : ℕ) → (is_moving_pose t p ≡ true) ↔ ((z : ℕ) × (posture_of t p z ≡ Some Moving))
  pub gives : (t : PlanTable) (rows : List PlanPose) (row : PlanPose) (before after : List (Option Posture))
      (given : Option Posture) → row.gives ≡ before ++ given ∷ after
      → posture_of (with_pose t rows row) (length rows) (length before) ≡ given

-- a place of the tables that a machine keeps
abbrev pub Keeps : PlanTable → ℕ → ℕ → Type 0
Keeps t m p = (p < length t.places) × ((get_or t.places p no_place).keeper ≡ m)

-- the row of a source or of a sink
abbrev pub IsEnd : PlanPlace → Type 0
IsEnd row = (row.source ≡ true) ⊎ (row.sink ≡ true)

-- who hosts a zone, is its party, keeps a place or has a pose: exactly those whom the row of this number names
pub record RightsByRow (t : PlanTable) (m : ℕ) : Type 0 where
  pub hosts : (z : ℕ) → (is_hosted t z m ≡ true) ↔ ((z < length t.zones) × ((get_or t.zones z no_zone).host ≡ m))
  pub party : (z : ℕ) → (is_party t m z ≡ true) ↔ ((z < length t.zones)
      × ((m ≡ (get_or t.zones z no_zone).host) ⊎ (m ≡ (get_or t.zones z no_zone).guest)))
  pub keeps : (p : ℕ) → (is_place_of t p m ≡ true) ↔ Keeps t m p
  pub poses : (p : ℕ) → (has_pose t m p ≡ true) ↔ ((p < length t.poses) × ((get_or t.poses p no_pose).machine ≡ m))
  -- who may ask for plates to come or go: the keeper of a place whose row says that it is a source or a sink
  pub ends : (p : ℕ) → (has_end t m p ≡ true) ↔ (Keeps t m p × IsEnd (get_or t.places p no_place))
  -- the bits of each zone, one for each place, twenty-one for the stamp and the stop
  pub width : word_width t ≡ sum_below (zone_bits t) (length t.zones) + length t.places + 21

-- what a zone has in the word, by its row and by the poses: a flag, unless its row has no way; and a posture counts
-- exactly if the zone is in the tables and some pose gives it the posture
pub record ShapesByRow (t : PlanTable) (z : ℕ) : Type 0 where
  pub flag : ((zone_shape t z).flag ≡ false) ↔ (((zone_row t z).inward ≡ None) × ((zone_row t z).outward ≡ None))
  pub given : (q : Posture) → (is_given t z q ≡ true)
      ↔ ((z < length t.zones) × ((p : ℕ) × (p < length t.poses) × (posture_of t p z ≡ Some q)))

-- the spaces by their rows: a zone that doesn't join is the first of its space, and one that does is of the space
-- before it; a space is named by its first zone; and where no zone joins, each has two bits for its owner
pub record SpacesByRow (t : PlanTable) (z : ℕ) : Type 0 where
  pub first : joins t z ≡ false → space_of t z ≡ z
  pub next : joins t (suc z) ≡ true → space_of t (suc z) ≡ space_of t z
  pub no_later : space_of t z ≤ z
  pub named : space_of t (space_of t z) ≡ space_of t z
  pub alone : ((y : ℕ) → joins t y ≡ false)
      → zone_bits t z ≡ 2 + flag_bits (zone_shape t z).flag + posture_bits (postures_of (zone_shape t z))

-- a way, if there is one, starts at a place that one machine keeps, and ends at one that the other keeps
abbrev pub GoesBetween : PlanTable → ℕ → ℕ → Option Way → Type 0
GoesBetween t giver receiver given = (w : Way) → given ≡ Some w → Keeps t giver w.from × Keeps t receiver w.to

pub record KeepsZoneRules (t : PlanTable) (row : PlanZone) : Type 0 where
  pub host : row.host < t.machines
  pub guest : row.guest < t.machines
  pub two : ¬ (row.host ≡ row.guest)
  pub inward : GoesBetween t row.guest row.host row.inward
  pub outward : GoesBetween t row.host row.guest row.outward

-- the zones that a pose gives a posture are in the tables, and its machine is the host of each
pub record KeepsPoseRules (t : PlanTable) (row : PlanPose) : Type 0 where
  pub machine : row.machine < t.machines
  pub zones : (z : ℕ) (q : Posture) → z < 10 → get_or row.gives z None ≡ Some q
      → (z < length t.zones) × ((get_or t.zones z no_zone).host ≡ row.machine)

-- a space has one host, and no guest twice; and a pose gives like postures to its zones
pub record KeepsSpaceRules (t : PlanTable) (z : ℕ) : Type 0 where
  pub host : host_of t (space_of t z) ≡ host_of t z
  pub guests : (y : ℕ) → y < z → space_of t y ≡ space_of t z → ¬ (guest_of t y ≡ guest_of t z)
  pub poses : (p : ℕ) → p < length t.poses → IsTrue (is_alike (posture_of t p (space_of t z)) (posture_of t p z))

pub record KeepsRules (t : PlanTable) : Type 0 where
  pub machines : t.machines < 31
  pub zones : length t.zones < 11
  pub poses : length t.poses < 65
  pub places : length t.places < 17
  -- twenty-one of a word's 64 bits are for the stamp and the stop
  pub width : length t.places + sum_below (zone_bits t) (length t.zones) < 44
  pub keepers : All (λ row. row.keeper < t.machines) t.places
  pub zone_rows : All (KeepsZoneRules t) t.zones
  pub pose_rows : All (KeepsPoseRules t) t.poses
  pub spaces : (z : ℕ) → z < length t.zones → KeepsSpaceRules t z

-- plans are the tables that keep these rules, and no others
abbrev pub PlansKeepRules : Type 0
PlansKeepRules = (t : PlanTable) → IsPlan t ↔ KeepsRules t
