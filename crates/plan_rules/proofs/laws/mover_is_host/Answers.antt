use Rattle.plan_rules.specs.Laws.{MoverIsHost}
use Rattle.plan_rules.proofs.Histories.{throughout}
use Rattle.plan_rules.proofs.HolderLaws.{mover_is_host}
use Rattle.plan_rules.proofs.laws.mover_is_host.Goals as goal

pub returns : goal.returns
returns c =
    let t = c.args.plan.now in
    let s = c.args.opening.now in
    throughout t s (MoverIsHost t s) (mover_is_host t s c.machines.ensures.plan c.requires.sound) c.args.history.now c.requires.legal
