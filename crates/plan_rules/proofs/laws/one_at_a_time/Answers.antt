use Rattle.plan_rules.specs.Laws.{OneAtATime}
use Rattle.plan_rules.proofs.Histories.{throughout}
use Rattle.plan_rules.proofs.HolderLaws.{one_at_a_time}
use Rattle.plan_rules.proofs.laws.one_at_a_time.Goals as goal

pub returns : goal.returns
returns c =
    let t = c.args.plan.now in
    let s = c.args.opening.now in
    throughout t s (OneAtATime t s) (one_at_a_time t s c.machines.ensures.plan c.requires.sound) c.args.history.now c.requires.legal
