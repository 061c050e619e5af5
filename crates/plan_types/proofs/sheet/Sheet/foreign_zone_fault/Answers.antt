use Rattle.std.proofs.Common.{◌≡◌, ◌∙◌, ap, arith}
use Rattle.plan_types.specs.Below.{first_below}
use Rattle.plan_types.specs.Faults as faults
use Rattle.plan_types.proofs.sheet.Sheet.foreign_zone_fault.Goals as goal

pub returns : goal.returns
returns c =
    let end : c.loop-zone.zone ≡ 10 = omega arith in
    c.loop-zone.invariant ∙ ap (first_below (faults.foreign_fault c.args.self.now c.args.pose)) end
