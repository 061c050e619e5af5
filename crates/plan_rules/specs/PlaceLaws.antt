-- Laws of full places, of all tables and all states.
use Rattle.std.specs.Prelude.{◌≡◌, ◌↔◌, ◌⊎◌, ℕ, ◌<◌, true, Some}
use Rattle.plan_types.specs.declared.table.Transfer.{Transfer}
use Rattle.plan_types.specs.Table.{PlanTable, zone_count, transfer_of}
use Rattle.plan_rules.specs.declared.state.State.{State}
use Rattle.plan_rules.specs.State.{zone_at, posture_at, is_full, plates_for}
use Rattle.plan_rules.specs.Causes.{is_filled}
use Rattle.plan_rules.specs.Refusals.{is_taken}

-- a plate is in a zone of the plan, and the zone's way ends at a place
abbrev pub ComesThrough : PlanTable → State → ℕ → ℕ → Type 0
ComesThrough t s p z =
    (z < zone_count t) × ((zone_at s z).flag ≡ true)
    × (way : Transfer) × (transfer_of t z (posture_at s z) ≡ Some way) × (way.to ≡ p)

-- a place has a plate, or one comes to it
abbrev pub HasOrGets : PlanTable → State → ℕ → Type 0
HasOrGets t s p = (is_full s p ≡ true) ⊎ ((z : ℕ) × ComesThrough t s p z)

-- a place is full for a refusal, and for its cause, exactly if it has a plate, or one comes to it
pub record FullPlaces : Type 0 where
  pub plates : (t : PlanTable) (s : State) (p : ℕ) → (0 < plates_for t s p) ↔ HasOrGets t s p
  pub refused : (t : PlanTable) (s : State) (p : ℕ) → (is_taken t s p ≡ true) ↔ HasOrGets t s p
  pub cause : (t : PlanTable) (s : State) (p : ℕ) → (is_filled t s p ≡ true) ↔ HasOrGets t s p
