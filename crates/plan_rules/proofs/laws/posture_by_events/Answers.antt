use Rattle.plan_rules.specs.Laws.{PostureByEvents}
use Rattle.plan_rules.proofs.Histories.{throughout}
use Rattle.plan_rules.proofs.Changes.{posture_by_events_is}
use Rattle.plan_rules.proofs.laws.posture_by_events.Goals as goal

pub returns : goal.returns
returns c =
    let t = c.args.plan.now in
    let s = c.args.opening.now in
    throughout t s (PostureByEvents t s) (posture_by_events_is t s c.machines.ensures.plan c.requires.sound) c.args.history.now c.requires.legal
