-- The faults of motors and hazards that don't fit a plan, in their order.
use Rattle.std.specs.Prelude.{ℕ, Bool, ◌||◌, not, nat_lt, nat_le, List, length, Option, is_some}
use Rattle.std.specs.Option.{option_or}
use Rattle.std.specs.Bool.{then_some}
use Rattle.plan_types.specs.Below.{first_below}
use Rattle.plan_types.specs.Table.{PlanTable, is_party, is_hosted, is_place_of}
use Rattle.plan_motors.specs.declared.motor.Motor.{Motor}
use Rattle.plan_motors.specs.declared.motor.Hazard.{Hazard}
use Rattle.plan_motors.specs.declared.fault.MotorFault.{MotorFault}
use Rattle.plan_motors.specs.declared.fault.MotorFault.TheVariants.{TooManyMotors, NoSuchMachine, ForeignZone, NotHeld}
use Rattle.plan_motors.specs.declared.fault.MotorFault.TheVariants.{ForeignPlace, NeverPermitted, NoSuchFirst}
use Rattle.plan_motors.specs.declared.fault.MotorFault.TheVariants.{NoSuchSecond}
use Rattle.plan_motors.specs.Motor.{need_of, place_need}
use Rattle.plan_motors.specs.Exclusion.{cause}
use Rattle.plan_motors.specs.OfPlan.{is_needed, motor_at, hazard_at}

infixl 5 ◌or◌
abbrev pub ◌or◌ : Option MotorFault → Option MotorFault → Option MotorFault
a or b = option_or a b

abbrev pub unless : Bool → MotorFault → Option MotorFault
unless holds fault = then_some (not holds) fault

-- a motor, the k-th of its table, needs a zone of which its machine is no party
abbrev pub zone_fault : PlanTable → Motor → ℕ → ℕ → Option MotorFault
zone_fault t m k z = unless (not (is_needed (need_of m z)) || is_party t m.machine z) (ForeignZone k z)

-- it needs a posture of a zone that its machine neither has to hold nor hosts
abbrev pub posture_fault : PlanTable → Motor → ℕ → ℕ → Option MotorFault
posture_fault t m k z =
    unless (not (is_some (need_of m z).posture) || ((need_of m z).holds || is_hosted t z m.machine)) (NotHeld k z)

abbrev pub need_fault : PlanTable → Motor → ℕ → ℕ → Option MotorFault
need_fault t m k z = zone_fault t m k z or posture_fault t m k z

abbrev pub place_fault : PlanTable → Motor → ℕ → ℕ → Option MotorFault
place_fault t m k p = unless (not (is_some (place_need m p)) || is_place_of t p m.machine) (ForeignPlace k p)

-- no state permits it
abbrev pub idle_fault : PlanTable → Motor → ℕ → Option MotorFault
idle_fault t m k = unless (not (is_some (cause t m m))) (NeverPermitted k)

abbrev pub motor_fault : PlanTable → Motor → ℕ → Option MotorFault
motor_fault t m k =
    unless (nat_lt m.machine t.machines) (NoSuchMachine k)
    or first_below (need_fault t m k) 10
    or first_below (place_fault t m k) 16
    or idle_fault t m k

abbrev pub hazard_fault : ℕ → Hazard → ℕ → Option MotorFault
hazard_fault motors h k =
    unless (nat_lt h.first motors) (NoSuchFirst k) or unless (nat_lt h.second motors) (NoSuchSecond k)

-- the first fault
abbrev pub first_fault : PlanTable → List Motor → List Hazard → Option MotorFault
first_fault t motors hazards =
    unless (nat_le (length motors) 64) TooManyMotors
    or first_below (λ k. motor_fault t (motor_at motors k) k) (length motors)
    or first_below (λ k. hazard_fault (length motors) (hazard_at hazards k) k) (length hazards)
