-- Programs with drives, and which of them run only what they may.
use Rattle.std.specs.Prelude.{◌≡◌, ℕ, ◌<◌, ◌/◌, ◌%◌, ◌^◌, Bool, true, false, ◌&&◌, not, nat_eq, nat_lt, List, length}
use Rattle.std.specs.Prelude.{slice_get, Option, Some, None, IsTrue}
use Rattle.std.specs.Option.{option_eq}
use Rattle.plan_types.specs.declared.posture.Posture.{Posture}
use Rattle.plan_types.specs.Table.{PlanTable, zone_count, place_count}
use Rattle.plan_types.specs.Same.{same_posture}
use Rattle.plan_rules.specs.Sound.{implies}
use Rattle.plan_motors.specs.declared.motor.ZoneNeed.{ZoneNeed}
use Rattle.plan_motors.specs.declared.motor.Motor.{Motor}
use Rattle.plan_motors.specs.Motor.{need_of, place_need}
use Rattle.plan_motors.specs.OfPlan.{motor_at}
use Rattle.plan_motors.specs.MotorPlan.{MotorTables}
use Rattle.plan_drives.specs.declared.line.Line.{Line}
use Rattle.plan_drives.specs.declared.line.Line.TheVariants.{Do, Await, Run}
use Rattle.plan_drives.specs.Facts.{facts_at}

-- a line runs the i-th motor of the plan if that has a bit, of 64
abbrev pub has_bit : ℕ → ℕ → Bool
has_bit motors i = nat_lt i 64 && nat_eq (motors / 2 ^ i % 2) 1

abbrev pub runs_motor : Line → ℕ → Bool
runs_motor (Do c) i = false
runs_motor (Await z) i = false
runs_motor (Run motors) i = has_bit motors i

abbrev pub Runs : List Line → ℕ → ℕ → Type 0
Runs program k i = (line : Line) × (slice_get program k ≡ Some line) × IsTrue (runs_motor line i)

-- ---- what follows from what is known

-- a posture is known to be the one that is needed, if one is
abbrev pub posture_follows : Option Posture → Option Posture → Bool
posture_follows known None = true
posture_follows known (Some needed) = option_eq same_posture known (Some needed)

abbrev pub zone_follows : ZoneNeed → ZoneNeed → Bool
zone_follows known need = implies need.holds known.holds && posture_follows known.posture need.posture

-- a place is known to be full, or to be empty
abbrev pub is_known_as : Option Bool → Bool → Bool
is_known_as None full = false
is_known_as (Some true) full = full
is_known_as (Some false) full = not full

abbrev pub place_follows : Option Bool → Option Bool → Bool
place_follows known None = true
place_follows known (Some full) = is_known_as known full

-- what a motor needs follows from what its machine knows
pub record Backs (t : PlanTable) (known motor : Motor) : Type 0 where
  pub machine : motor.machine ≡ known.machine
  pub zones : (z : ℕ) → z < zone_count t → IsTrue (zone_follows (need_of known z) (need_of motor z))
  pub places : (p : ℕ) → p < place_count t → IsTrue (place_follows (place_need known p) (place_need motor p))

-- ---- programs that run only what they may

-- each motor that a line of a machine's program runs is one of the plan, and what it needs is known at the line
abbrev pub IsBackedAt : MotorTables → ℕ → List Line → ℕ → Type 0
IsBackedAt plan m program k =
    (i : ℕ) → Runs program k i
    → (i < length plan.motors) × Backs plan.plan (facts_at plan.plan m program k) (motor_at plan.motors i)

-- so it is at each line
abbrev pub IsDriven : MotorTables → ℕ → List Line → Type 0
IsDriven plan m program = (k : ℕ) → IsBackedAt plan m program k
