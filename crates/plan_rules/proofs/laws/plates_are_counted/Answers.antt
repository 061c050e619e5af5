use Rattle.plan_rules.specs.Laws.{PlatesAreCounted}
use Rattle.plan_rules.proofs.Histories.{throughout}
use Rattle.plan_rules.proofs.Changes.{plates-counted}
use Rattle.plan_rules.proofs.laws.plates_are_counted.Goals as goal

pub returns : goal.returns
returns c =
    let t = c.args.plan.now in
    let s = c.args.opening.now in
    throughout t s (PlatesAreCounted t s) (plates-counted t s c.machines.ensures.plan c.requires.sound) c.args.history.now c.requires.legal
