use Rattle.plan_rules.specs.Laws.{StampCountsChanges}
use Rattle.plan_rules.proofs.Histories.{throughout}
use Rattle.plan_rules.proofs.Changes.{stamp-counted}
use Rattle.plan_rules.proofs.laws.stamp_counts_changes.Goals as goal

pub returns : goal.returns
returns c =
    let t = c.args.plan.now in
    let s = c.args.opening.now in
    throughout t s (StampCountsChanges t s) (stamp-counted t s) c.args.history.now c.requires
