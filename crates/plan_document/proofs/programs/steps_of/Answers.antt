use Rattle.std.proofs.Common.{arith}
use Rattle.plan_document.proofs.Stepping.{programs_more}
use Rattle.plan_document.proofs.programs.steps_of.Goals as goal

pub loop-i-preserved : goal.loop-i-preserved
loop-i-preserved c =
    programs_more c.args.motors (λ known. known.now) (λ list. list.items) c.args.named.now c.args.machines.now c.loop-i.i c.index-machines-i.result c.loop-i.lists.items c.push.new.self.items c.in_ok-steps.steps (omega arith) c.index-machines-i.is c.loop-i.invariant c.in_ok-steps.ensures c.in_ok-push.ensures.items
