use Rattle.std.proofs.Common.{◌≡◌}
use Rattle.plan_types.specs.Below.{first_below}
use Rattle.plan_motors.specs.Faults as faults
use Rattle.plan_motors.specs.OfPlan as of_plan
use Rattle.plan_motors.proofs.check.hazards_fault.Given as goal

abbrev pub invariant-loop-hazard : goal.invariant-loop-hazard
invariant-loop-hazard l = l.first ≡ first_below (λ k. faults.hazard_fault l.motors (of_plan.hazard_at l.hazards k) k) l.hazard
