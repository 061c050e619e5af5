use Rattle.std.proofs.Common.{◌∙◌, ◌<◌, length, arith}
use Rattle.plan_drives.proofs.Lacking.{facts_there}
use Rattle.plan_drives.proofs.facts.facts_at.Goals as goal

pub loop-before-preserved : goal.loop-before-preserved
loop-before-preserved c =
    let k = c.loop-before.before in
    let inside : k < length c.args.program.now = omega (arith, c.loop-before-test.true, c.loop-before.auto.before-end, c.min-before-end.ensures) in
    c.facts_after_line-known.ensures ∙ facts_there c.args.plan.now c.args.machine c.args.program.now k c.loop-before.known inside c.loop-before.invariant
