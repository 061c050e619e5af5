use Rattle.std.proofs.Common.{below_more, refl}
use Rattle.plan_compiled.specs.Right.{IsRightCode}
use Rattle.plan_compiled.proofs.right.is_right_zone.Goals as goal

pub loop-code-preserved : goal.loop-code-preserved
loop-code-preserved c =
    below_more (IsRightCode c.args.plan.now c.args.asked c.args.part.now c.args.zone) c.loop-code.code c.loop-code.invariant (c.if-not-is_right_code.ensures refl)
