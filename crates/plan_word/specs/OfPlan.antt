-- The states of a plan, each of which has a word of its own.
use Rattle.std.specs.Prelude.{◌≡◌, ℕ, ◌<◌, ◌≤◌, Bool, true, false, ◌||◌, IsTrue}
use Rattle.plan_types.specs.declared.posture.Posture.{Posture}
use Rattle.plan_types.specs.declared.posture.Posture.TheVariants.{Closed}
use Rattle.plan_types.specs.declared.shape.Postures.{Postures}
use Rattle.plan_types.specs.declared.shape.Postures.TheVariants.{Shut, Two, All}
use Rattle.plan_types.specs.Same.{same_posture}
use Rattle.plan_types.specs.Table.{postures_of, PlanTable, zone_count, place_count, zone_shape}
use Rattle.plan_types.specs.Plan.{IsPlan}
use Rattle.plan_rules.specs.declared.state.State.{State}
use Rattle.plan_rules.specs.State.{zone_at, posture_at, is_full, free_zone}
use Rattle.plan_rules.specs.Sound.{IsSound}

-- a zone's field tells a posture
abbrev pub can_have : Postures → Posture → Bool
can_have Shut q = same_posture q Closed
can_have (Two other) q = same_posture q Closed || same_posture q other
can_have All q = true

-- a sound state that uses no zone and no place past the end of the plan's tables, whatever postures its zones have
pub record IsWithin (t : PlanTable) (s : State) : Type 0 where
  pub sound : IsSound t s
  pub no_more_zones : (z : ℕ) → zone_count t ≤ z → zone_at s z ≡ free_zone
  pub no_more_plates : (p : ℕ) → place_count t ≤ p → is_full s p ≡ false

-- such a state, in which each zone has a posture that its field tells
pub record IsOfPlan (t : PlanTable) (s : State) : Type 0 where
  pub plan : IsPlan t
  pub sound : IsSound t s
  pub postures_told : (z : ℕ) → z < zone_count t → IsTrue (can_have (postures_of (zone_shape t z)) (posture_at s z))
  pub no_more_zones : (z : ℕ) → zone_count t ≤ z → zone_at s z ≡ free_zone
  pub no_more_plates : (p : ℕ) → place_count t ≤ p → is_full s p ≡ false
