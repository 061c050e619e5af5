use Rattle.std.proofs.Common.{◌≡◌, ◌∙◌, ap, arith}
use Rattle.plan_types.specs.Below.{first_below}
use Rattle.plan_drives.specs.Lacking.{undriven_motor}
use Rattle.plan_drives.proofs.check.first_motor.Goals as goal

pub returns : goal.returns
returns c =
    let end : c.loop-motor.motor ≡ 64 = omega arith in
    c.loop-motor.invariant ∙ ap (first_below (undriven_motor c.args.plan.now c.args.known.now c.args.line c.args.motors)) end
