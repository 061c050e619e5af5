-- What it means that two motors exclude each other, and what shows that they don't.
use Rattle.std.specs.Prelude.{◌≡◌, ℕ, ◌<◌, Bool, true, false, IsTrue}
use Rattle.plan_types.specs.declared.posture.Posture.TheVariants.{Moving}
use Rattle.plan_types.specs.Same.{same_posture}
use Rattle.plan_types.specs.Table.{PlanTable, zone_count, place_count, space_of}
use Rattle.plan_rules.specs.declared.state.ZoneState.{ZoneState}
use Rattle.plan_rules.specs.declared.state.State.{State}
use Rattle.plan_rules.specs.Sound.{IsSound, IsLawfulZone}
use Rattle.plan_word.specs.OfPlan.{IsWithin}
use Rattle.plan_motors.specs.declared.motor.Motor.{Motor}
use Rattle.plan_motors.specs.declared.exclusion.Cause.TheVariants.{Zone, Place}
use Rattle.plan_motors.specs.declared.exclusion.Exclusion.{Exclusion}
use Rattle.plan_motors.specs.declared.exclusion.Exclusion.TheVariants.{Excluded, Possible}
use Rattle.plan_motors.specs.Motor.{need_of, place_need, meets, meets_place, Permits}

-- no sound state permits both motors
abbrev pub NeverBoth : PlanTable → Motor → Motor → Type 0
NeverBoth t a b = (s : State) → IsSound t s → Permits t s a → ¬ Permits t s b

-- a zone of the space of another one
pub record SharesSpace (t : PlanTable) (z y : ℕ) : Type 0 where
  pub there : y < zone_count t
  pub same : space_of t y ≡ space_of t z

-- the zones of a space keep the rules: each of them is lawful, they have one owner, and all of them move, or none
pub record KeepsRules (t : PlanTable) (z : ℕ) (v : ℕ → ZoneState) : Type 0 where
  pub lawful : (y : ℕ) → SharesSpace t z y → IsLawfulZone t y (v y)
  pub owner : (y : ℕ) → SharesSpace t z y → (v y).owner ≡ (v z).owner
  pub motion : (y : ℕ) → SharesSpace t z y → same_posture (v y).posture Moving ≡ same_posture (v z).posture Moving

-- each zone of a space is as a motor needs it
abbrev pub MeetsSpace : PlanTable → Motor → ℕ → (ℕ → ZoneState) → Type 0
MeetsSpace t m z v = (y : ℕ) → SharesSpace t z y → IsTrue (meets m.machine (need_of m y) (v y))

-- a zone that keeps the rules is never as both need it, if its space is no other one's; else it and the others of its
-- space never are
abbrev pub IsApartByZone : PlanTable → Motor → Motor → ℕ → Type 0
IsApartByZone t a b z = (v : ℕ → ZoneState) → KeepsRules t z v → MeetsSpace t a z v → ¬ MeetsSpace t b z v

-- a place is never as both need it
abbrev pub IsApartByPlace : Motor → Motor → ℕ → Type 0
IsApartByPlace a b p =
    (full : Bool) → IsTrue (meets_place (place_need a p) full) → ¬ IsTrue (meets_place (place_need b p) full)

-- what an answer shows: the zone or the place that keeps the two apart, or a sound state that permits both
abbrev pub IsShown : PlanTable → Motor → Motor → Exclusion → Type 0
IsShown t a b (Excluded (Zone z)) = (z < zone_count t) × IsApartByZone t a b z
IsShown t a b (Excluded (Place p)) = (p < place_count t) × IsApartByPlace a b p
IsShown t a b (Possible s) = IsWithin t s × Permits t s a × Permits t s b

abbrev pub is_excluded : Exclusion → Bool
is_excluded (Excluded _) = true
is_excluded (Possible _) = false
