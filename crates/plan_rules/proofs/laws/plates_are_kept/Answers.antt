use Rattle.plan_rules.specs.Laws.{PlatesAreKept}
use Rattle.plan_rules.proofs.Histories.{throughout}
use Rattle.plan_rules.proofs.Changes.{plates-kept}
use Rattle.plan_rules.proofs.laws.plates_are_kept.Goals as goal

pub returns : goal.returns
returns c =
    let t = c.args.plan.now in
    let s = c.args.opening.now in
    throughout t s (PlatesAreKept t s) (plates-kept t s c.machines.ensures.plan c.requires.sound) c.args.history.now c.requires.legal
