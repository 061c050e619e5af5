-- What a motor needs that its machine doesn't know at a line, and the first line with such a motor, computed.
use Rattle.std.specs.Prelude.{◌≡◌, ◌≢◌, ℕ, ◌<◌, ◌≤◌, Bool, ◌&&◌, not, nat_eq, nat_lt, List, length, slice_get}
use Rattle.std.specs.Prelude.{Option, Some, None, option_map, if◌then◌else◌, IsTrue}
use Rattle.std.specs.Option.{option_or}
use Rattle.std.specs.Bool.{then_some}
use Rattle.plan_types.specs.declared.posture.Posture.{Posture}
use Rattle.plan_types.specs.Below.{first_below}
use Rattle.plan_types.specs.Table.{zone_count, place_count}
use Rattle.plan_motors.specs.declared.motor.ZoneNeed.{ZoneNeed}
use Rattle.plan_motors.specs.declared.motor.Motor.{Motor}
use Rattle.plan_motors.specs.Motor.{need_of, place_need}
use Rattle.plan_motors.specs.OfPlan.{motor_at}
use Rattle.plan_motors.specs.MotorPlan.{MotorTables}
use Rattle.plan_drives.specs.declared.line.Line.{Line}
use Rattle.plan_drives.specs.declared.line.Line.TheVariants.{Do, Await, Run}
use Rattle.plan_drives.specs.declared.undriven.Lack.{Lack}
use Rattle.plan_drives.specs.declared.undriven.Lack.TheVariants.{NoSuchMotor, OtherMachine, NotHeld, NotInPosture}
use Rattle.plan_drives.specs.declared.undriven.Lack.TheVariants.{NotFilled}
use Rattle.plan_drives.specs.declared.undriven.Undriven.{Undriven}
use Rattle.plan_drives.specs.Facts.{facts_at}
use Rattle.plan_drives.specs.Program.{has_bit, Runs, posture_follows, is_known_as}

-- a motor lacks something, by what is known: there is no such motor; it is another machine's; it needs a zone that
-- isn't known to be held, a posture that isn't known to be there, or a place that isn't known to be so
abbrev pub Lacks : MotorTables → Motor → ℕ → Lack → Type 0
Lacks plan known i NoSuchMotor = length plan.motors ≤ i
Lacks plan known i (OtherMachine n) = ((motor_at plan.motors i).machine ≡ n) × (n ≢ known.machine)
Lacks plan known i (NotHeld z) =
    (z < zone_count plan.plan) × IsTrue (need_of (motor_at plan.motors i) z).holds × ¬ IsTrue (need_of known z).holds
Lacks plan known i (NotInPosture z needed told) =
    (z < zone_count plan.plan)
    × ((need_of (motor_at plan.motors i) z).posture ≡ Some needed)
    × ((need_of known z).posture ≡ told)
    × (told ≢ Some needed)
Lacks plan known i (NotFilled p needed told) =
    (p < place_count plan.plan)
    × (place_need (motor_at plan.motors i) p ≡ Some needed)
    × (place_need known p ≡ told)
    × (told ≢ Some needed)

-- a line of a machine's program runs a motor that lacks something there
pub record IsUndriven (plan : MotorTables) (m : ℕ) (program : List Line) (u : Undriven) : Type 0 where
  pub runs : Runs program u.line u.motor
  pub lacks : Lacks plan (facts_at plan.plan m program u.line) u.motor u.lack

-- ---- the first one, computed

infixl 5 ◌or◌
abbrev pub ◌or◌ : Option Lack → Option Lack → Option Lack
a or b = option_or a b

abbrev pub posture_lack : ℕ → Option Posture → Option Posture → Option Lack
posture_lack z told None = None
posture_lack z told (Some needed) = then_some (not (posture_follows told (Some needed))) (NotInPosture z needed told)

abbrev pub zone_lack : ℕ → ZoneNeed → ZoneNeed → Option Lack
zone_lack z known need =
    then_some (need.holds && not known.holds) (NotHeld z) or posture_lack z known.posture need.posture

abbrev pub place_lack : ℕ → Option Bool → Option Bool → Option Lack
place_lack p told None = None
place_lack p told (Some needed) = then_some (not (is_known_as told needed)) (NotFilled p needed told)

abbrev pub zones_lack : MotorTables → Motor → Motor → Option Lack
zones_lack plan known motor =
    first_below (λ z. zone_lack z (need_of known z) (need_of motor z)) (zone_count plan.plan)

abbrev pub places_lack : MotorTables → Motor → Motor → Option Lack
places_lack plan known motor =
    first_below (λ p. place_lack p (place_need known p) (place_need motor p)) (place_count plan.plan)

abbrev pub machine_lack : Motor → Motor → Option Lack
machine_lack known motor = then_some (not (nat_eq motor.machine known.machine)) (OtherMachine motor.machine)

abbrev pub motor_lack : MotorTables → Motor → ℕ → Option Lack
motor_lack plan known i =
    then_some (not (nat_lt i (length plan.motors))) NoSuchMotor
    or machine_lack known (motor_at plan.motors i)
    or zones_lack plan known (motor_at plan.motors i)
    or places_lack plan known (motor_at plan.motors i)

-- a motor of those that line k runs, if it lacks something
abbrev pub undriven_motor : MotorTables → Motor → ℕ → ℕ → ℕ → Option Undriven
undriven_motor plan known k motors i =
    option_map
    (λ lack. record { line = k; motor = i; lack = lack })
    (if has_bit motors i then motor_lack plan known i else None)

-- the first motor of line k that lacks something
abbrev pub undriven_line : MotorTables → Motor → ℕ → Line → Option Undriven
undriven_line plan known k (Do c) = None
undriven_line plan known k (Await z) = None
undriven_line plan known k (Run motors) = first_below (undriven_motor plan known k motors) 64

abbrev pub undriven_of : MotorTables → Motor → ℕ → Option Line → Option Undriven
undriven_of plan known k None = None
undriven_of plan known k (Some line) = undriven_line plan known k line

-- and of the lines of a program
abbrev pub undriven_at : MotorTables → ℕ → List Line → ℕ → Option Undriven
undriven_at plan m program k = undriven_of plan (facts_at plan.plan m program k) k (slice_get program k)

abbrev pub undriven : MotorTables → ℕ → List Line → Option Undriven
undriven plan m program = first_below (undriven_at plan m program) (length program)
