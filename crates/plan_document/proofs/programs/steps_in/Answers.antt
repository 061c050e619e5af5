use Rattle.std.proofs.Common.{arith}
use Rattle.plan_document.proofs.Stepping.{steps_more}
use Rattle.plan_document.proofs.programs.steps_in.Goals as goal

pub loop-item-preserved : goal.loop-item-preserved
loop-item-preserved c =
    steps_more c.args.motors (λ known. known.now) c.args.named.now c.args.sensors.now c.args.machine c.in_ok-number.number c.args.lines.now c.loop-item.item c.index-lines-item.result c.as_str-line.result.now c.loop-item.steps.items c.push.new.self.items c.in_ok-step.step c.in_ok-number.ensures c.as_str-line.ensures.value (omega arith) c.index-lines-item.is c.loop-item.invariant c.in_ok-step.ensures c.in_ok-push.ensures.items
