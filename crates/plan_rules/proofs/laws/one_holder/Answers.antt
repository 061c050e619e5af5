use Rattle.plan_rules.specs.Laws.{OneHolder}
use Rattle.plan_rules.proofs.Histories.{throughout}
use Rattle.plan_rules.proofs.HolderLaws.{one_holder}
use Rattle.plan_rules.proofs.laws.one_holder.Goals as goal

pub returns : goal.returns
returns c =
    let t = c.args.plan.now in
    let s = c.args.opening.now in
    throughout t s (OneHolder t s) (one_holder t s c.machines.ensures.plan c.requires.sound) c.args.history.now c.requires.legal
