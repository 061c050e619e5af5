-- What a motor, or a part that stands somewhere, needs of the interlock, and when a state permits it.
use Rattle.std.specs.Prelude.{ℕ, ◌<◌, Bool, true, false, ◌&&◌, not, get_or, Option, Some, None, IsTrue}
use Rattle.plan_types.specs.declared.posture.Posture.{Posture}
use Rattle.plan_types.specs.Same.{same_posture}
use Rattle.plan_types.specs.Table.{PlanTable, zone_count, place_count}
use Rattle.plan_rules.specs.declared.state.ZoneState.{ZoneState}
use Rattle.plan_rules.specs.declared.state.State.{State}
use Rattle.plan_rules.specs.State.{zone_at, is_full}
use Rattle.plan_rules.specs.Sound.{implies, is_owned_by}
use Rattle.plan_motors.specs.declared.motor.ZoneNeed.{ZoneNeed}
use Rattle.plan_motors.specs.declared.motor.Motor.{Motor}

-- what a motor needs of a zone and of a place by its number
abbrev pub no_need : ZoneNeed
no_need = record { holds = false; posture = None }

abbrev pub need_of : Motor → ℕ → ZoneNeed
need_of m z = get_or m.zones z no_need

abbrev pub place_need : Motor → ℕ → Option Bool
place_need m p = get_or m.places p None

-- a posture is the one that is needed, if one is
abbrev pub has_posture : Option Posture → Posture → Bool
has_posture None q = true
has_posture (Some needed) q = same_posture q needed

-- a zone is as a machine needs it: the machine holds it, if it has to, and it has the posture
abbrev pub meets : ℕ → ZoneNeed → ZoneState → Bool
meets m need v = implies need.holds (is_owned_by v.owner m) && has_posture need.posture v.posture

-- a place is full, or empty, if it has to be
abbrev pub meets_place : Option Bool → Bool → Bool
meets_place None full = true
meets_place (Some true) full = full
meets_place (Some false) full = not full

-- a state permits a motor: each zone and each place of the plan is as the motor needs it
pub record Permits (t : PlanTable) (s : State) (m : Motor) : Type 0 where
  pub zones : (z : ℕ) → z < zone_count t → IsTrue (meets m.machine (need_of m z) (zone_at s z))
  pub places : (p : ℕ) → p < place_count t → IsTrue (meets_place (place_need m p) (is_full s p))
