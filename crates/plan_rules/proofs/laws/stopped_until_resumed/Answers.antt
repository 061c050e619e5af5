use Rattle.plan_rules.specs.Laws.{StoppedUntilResumed}
use Rattle.plan_rules.proofs.Histories.{throughout}
use Rattle.plan_rules.proofs.Stopping.{stopped_along}
use Rattle.plan_rules.proofs.laws.stopped_until_resumed.Goals as goal

pub returns : goal.returns
returns c =
    let t = c.args.plan.now in
    let s = c.args.opening.now in
    throughout t s (StoppedUntilResumed t s) (stopped_along t s) c.args.history.now c.requires
