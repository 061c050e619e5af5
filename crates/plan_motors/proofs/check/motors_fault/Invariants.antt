use Rattle.std.proofs.Common.{◌≡◌}
use Rattle.plan_types.specs.Below.{first_below}
use Rattle.plan_motors.specs.Faults as faults
use Rattle.plan_motors.specs.OfPlan as of_plan
use Rattle.plan_motors.proofs.check.motors_fault.Given as goal

abbrev pub invariant-loop-motor : goal.invariant-loop-motor
invariant-loop-motor l = l.first ≡ first_below (λ k. faults.motor_fault l.plan (of_plan.motor_at l.motors k) k) l.motor
