-- The rules of a sound state.
use Rattle.std.specs.Prelude.{◌≡◌, ℕ, ◌<◌, ◌≤◌, Bool, false, true, ◌||◌, not, nat_eq, length, IsTrue}
use Rattle.std.specs.Prelude.{Option, Some, None}
use Rattle.std.specs.Option.{option_eq}
use Rattle.plan_types.specs.declared.posture.Posture.{Posture}
use Rattle.plan_types.specs.declared.posture.Posture.TheVariants.{Closed, Moving, OpenIn, OpenOut}
use Rattle.plan_types.specs.declared.table.Transfer.{Transfer}
use Rattle.plan_types.specs.Same.{same_posture}
use Rattle.plan_types.specs.Table.{PlanTable, zone_count, host_of, guest_of, transfer_of, enters, space_of}
use Rattle.plan_rules.specs.declared.state.ZoneState.{ZoneState}
use Rattle.plan_rules.specs.declared.state.State.{State}
use Rattle.plan_rules.specs.State.{zone_at, owner_of, posture_at, plates_for, last_stamp, start_state}

abbrev pub implies : Bool → Bool → Bool
implies a b = not a || b

abbrev pub is_open : Posture → Bool
is_open Closed = false
is_open Moving = false
is_open OpenIn = true
is_open OpenOut = true

abbrev pub is_owned_by : Option ℕ → ℕ → Bool
is_owned_by owner m = option_eq nat_eq owner (Some m)

-- the receiver of a way owns the zone
abbrev pub is_received_by : Option ℕ → Option Transfer → Bool
is_received_by owner None = false
is_received_by owner (Some way) = is_owned_by owner way.receiver

-- the owner of a zone, if it has one, enters its space
abbrev pub is_entrant : PlanTable → ℕ → Option ℕ → Bool
is_entrant t z None = true
is_entrant t z (Some m) = enters t m z

-- the rules of one zone
pub record IsLawfulZone (t : PlanTable) (z : ℕ) (v : ZoneState) : Type 0 where
  -- an owner is a party of the space
  pub owner_is_party : IsTrue (is_entrant t z v.owner)
  -- a plate in a zone is on its way: the posture gives the way, and its receiver owns the zone
  pub flag_has_transfer : IsTrue (implies v.flag (is_received_by v.owner (transfer_of t z v.posture)))
  -- a zone that its guest owns is open
  pub guest_only_while_open : IsTrue (implies (is_owned_by v.owner (guest_of t z)) (is_open v.posture))
  -- a zone that moves belongs to its host
  pub moving_belongs_to_host : IsTrue (implies (same_posture v.posture Moving) (is_owned_by v.owner (host_of t z)))

-- a zone has the owner of its space, and moves if its space does
pub record IsOfSpace (t : PlanTable) (s : State) (z : ℕ) : Type 0 where
  pub owner : owner_of s z ≡ owner_of s (space_of t z)
  pub motion : same_posture (posture_at s z) Moving ≡ same_posture (posture_at s (space_of t z)) Moving

pub record IsSound (t : PlanTable) (s : State) : Type 0 where
  pub stamp_in_range : s.stamp ≤ last_stamp
  pub has_ten_zones : length s.zones ≡ 10
  pub has_sixteen_places : length s.full ≡ 16
  pub zone_is_lawful : (z : ℕ) → z < zone_count t → IsLawfulZone t z (zone_at s z)
  pub zone_is_of_space : (z : ℕ) → z < zone_count t → IsOfSpace t s z
  -- a plate is in one zone of a space
  pub one_plate_a_space : (y z : ℕ) → y < zone_count t → z < zone_count t → space_of t y ≡ space_of t z
      → (zone_at s y).flag ≡ true → (zone_at s z).flag ≡ true → y ≡ z
  -- a place has at most one plate, or one that is on its way to it
  pub one_plate_a_place : (p : ℕ) → plates_for t s p ≤ 1

-- a start has any places full
pub record IsStart (s : State) : Type 0 where
  pub stamp_in_range : s.stamp ≤ last_stamp
  pub has_sixteen_places : length s.full ≡ 16
  pub same : s ≡ start_state s.full s.stamp
