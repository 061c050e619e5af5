-- What makes tables a plan.
use Rattle.std.specs.Prelude.{◌≡◌, ◌≢◌, ℕ, ◌<◌, ◌≤◌, Bool, true, false, ◌&&◌, not, Option, Some, None, IsTrue}
use Rattle.std.specs.Prelude.{if◌then◌else◌}
use Rattle.plan_types.specs.declared.posture.Posture.{Posture}
use Rattle.plan_types.specs.declared.posture.Posture.TheVariants.{Moving}
use Rattle.plan_types.specs.declared.table.Way.{Way}
use Rattle.plan_types.specs.Same.{same_posture}
use Rattle.plan_types.specs.Table.{PlanTable, zone_count, pose_count, place_count, word_width, zone_row, keeper_of}
use Rattle.plan_types.specs.Table.{host_of, guest_of, machine_of, posture_of, is_place_of, space_of}

-- a way, if there is one, leads from a place of the giver to a place of the receiver
abbrev pub leads : PlanTable → ℕ → ℕ → Option Way → Bool
leads t giver receiver None = true
leads t giver receiver (Some way) = is_place_of t way.from giver && is_place_of t way.to receiver

-- two postures that a pose may give zones of one space: neither, or both are Moving, or neither is
abbrev pub is_alike : Option Posture → Option Posture → Bool
is_alike None None = true
is_alike (Some q) (Some r) = if same_posture q Moving then same_posture r Moving else not (same_posture r Moving)
is_alike _ _ = false

pub record IsPlan (t : PlanTable) : Type 0 where
  pub machines_at_most : t.machines ≤ 30
  pub zones_at_most : zone_count t ≤ 10
  pub poses_at_most : pose_count t ≤ 64
  pub places_at_most : place_count t ≤ 16
  pub fits_a_word : word_width t ≤ 64
  pub keeper_is_machine : (p : ℕ) → p < place_count t → keeper_of t p < t.machines
  pub host_is_machine : (z : ℕ) → z < zone_count t → host_of t z < t.machines
  pub guest_is_machine : (z : ℕ) → z < zone_count t → guest_of t z < t.machines
  pub host_is_not_guest : (z : ℕ) → z < zone_count t → host_of t z ≢ guest_of t z
  pub inward_to_host : (z : ℕ) → z < zone_count t
      → IsTrue (leads t (guest_of t z) (host_of t z) (zone_row t z).inward)
  pub outward_to_guest : (z : ℕ) → z < zone_count t
      → IsTrue (leads t (host_of t z) (guest_of t z) (zone_row t z).outward)
  -- a space has one host, and each of its guests once
  pub one_host_a_space : (z : ℕ) → z < zone_count t → host_of t (space_of t z) ≡ host_of t z
  pub guests_differ : (y z : ℕ) → y < z → z < zone_count t → space_of t y ≡ space_of t z → guest_of t y ≢ guest_of t z
  pub pose_of_machine : (p : ℕ) → p < pose_count t → machine_of t p < t.machines
  -- a pose gives postures only to zones of the plan that its machine hosts
  pub pose_of_host : (p z : ℕ) (q : Posture) → p < pose_count t → z < 10 → posture_of t p z ≡ Some q
      → (z < zone_count t) × (host_of t z ≡ machine_of t p)
  -- a pose moves a space as a whole
  pub space_moves_whole : (p z : ℕ) → p < pose_count t → z < zone_count t
      → IsTrue (is_alike (posture_of t p (space_of t z)) (posture_of t p z))
