use Rattle.std.proofs.Common.{◌≡◌, ◌∙◌, ap, arith, length}
use Rattle.plan_types.specs.Below.{first_below}
use Rattle.plan_motors.specs.Faults as faults
use Rattle.plan_motors.specs.OfPlan as of_plan
use Rattle.plan_motors.proofs.check.motors_fault.Goals as goal

pub returns : goal.returns
returns c =
    let end : c.loop-motor.motor ≡ length c.args.motors.now = omega arith in
    c.loop-motor.invariant ∙ ap (first_below (λ k. faults.motor_fault c.args.plan.now (of_plan.motor_at c.args.motors.now k) k)) end
