use Rattle.std.proofs.Common.{◌≡◌, ◌∙◌, ap, arith}
use Rattle.plan_types.specs.Below.{first_below}
use Rattle.plan_motors.specs.Faults as faults
use Rattle.plan_motors.proofs.check.places_fault.Goals as goal

pub returns : goal.returns
returns c =
    let end : c.loop-place.place ≡ 16 = omega arith in
    c.loop-place.invariant ∙ ap (first_below (faults.place_fault c.args.plan.now c.args.motor.now c.args.number)) end
