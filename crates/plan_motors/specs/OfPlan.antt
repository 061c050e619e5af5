-- Which motors and hazards fit a plan.
use Rattle.std.specs.Prelude.{ℕ, ◌<◌, ◌≤◌, Bool, ◌||◌, List, length, get_or, replicate, None, is_some, IsTrue}
use Rattle.plan_types.specs.Table.{PlanTable, is_party, is_hosted, is_place_of}
use Rattle.plan_rules.specs.declared.state.State.{State}
use Rattle.plan_word.specs.OfPlan.{IsWithin}
use Rattle.plan_motors.specs.declared.motor.ZoneNeed.{ZoneNeed}
use Rattle.plan_motors.specs.declared.motor.Motor.{Motor}
use Rattle.plan_motors.specs.declared.motor.Hazard.{Hazard}
use Rattle.plan_motors.specs.Motor.{no_need, need_of, place_need, Permits}

-- a motor needs something of a zone
abbrev pub is_needed : ZoneNeed → Bool
is_needed need = need.holds || is_some need.posture

-- a motor needs only what no other machine's call can change: zones that its machine holds, with their postures, the
-- postures of zones that it hosts, held or not, and its own places; and some state permits it
pub record IsMotorOf (t : PlanTable) (m : Motor) : Type 0 where
  pub machine_is_of_plan : m.machine < t.machines
  pub zone_is_shared : (z : ℕ) → z < 10 → IsTrue (is_needed (need_of m z)) → IsTrue (is_party t m.machine z)
  pub posture_is_kept : (z : ℕ) → z < 10 → IsTrue (is_some (need_of m z).posture)
      → IsTrue ((need_of m z).holds || is_hosted t z m.machine)
  pub place_is_own : (p : ℕ) → p < 16 → IsTrue (is_some (place_need m p)) → IsTrue (is_place_of t p m.machine)
  pub can_be : (s : State) × IsWithin t s × Permits t s m

-- past the end of the table stands a motor that needs nothing
abbrev pub no_motor : Motor
no_motor = record { machine = 0; zones = replicate 10 no_need; places = replicate 16 None }

abbrev pub motor_at : List Motor → ℕ → Motor
motor_at motors k = get_or motors k no_motor

abbrev pub no_hazard : Hazard
no_hazard = record { first = 0; second = 0 }

abbrev pub hazard_at : List Hazard → ℕ → Hazard
hazard_at hazards k = get_or hazards k no_hazard

pub record AreMotorsOf (t : PlanTable) (motors : List Motor) (hazards : List Hazard) : Type 0 where
  pub motors_at_most : length motors ≤ 64
  pub each_motor : (k : ℕ) → k < length motors → IsMotorOf t (motor_at motors k)
  pub first_is_motor : (k : ℕ) → k < length hazards → (hazard_at hazards k).first < length motors
  pub second_is_motor : (k : ℕ) → k < length hazards → (hazard_at hazards k).second < length motors
