use Rattle.cell_rules.proofs.Names.{subst, IsSound, BeltsRunClear}
use Rattle.cell_rules.proofs.lemmas.Histories.{throughout}
use Rattle.cell_rules.proofs.lemmas.Assembly.{belts_run_clear}
use Rattle.cell_rules.proofs.laws.belts_run_clear.Goals as goal

pub returns : goal.returns
returns c =
    let s = c.args.opening.now in
    throughout s (BeltsRunClear s) (belts_run_clear s (subst IsSound c.opening.view_is c.opening.invariant) c.requires.clear) c.args.history.now c.requires.legal
