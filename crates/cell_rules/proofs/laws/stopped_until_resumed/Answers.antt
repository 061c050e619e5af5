use Rattle.cell_rules.specs.Laws.{StoppedUntilResumed}
use Rattle.cell_rules.proofs.lemmas.Histories.{throughout}
use Rattle.cell_rules.proofs.lemmas.Stopping.{stopped_along}
use Rattle.cell_rules.proofs.laws.stopped_until_resumed.Goals as goal

pub returns : goal.returns
returns c =
    let s = c.args.opening.now in
    throughout s (StoppedUntilResumed s) (stopped_along s) c.args.history.now c.requires
