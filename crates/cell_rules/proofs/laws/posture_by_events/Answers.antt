use Rattle.cell_rules.proofs.Names.{sym}
use Rattle.cell_rules.specs.Laws.{PostureByEvents}
use Rattle.cell_rules.proofs.lemmas.Histories.{throughout}
use Rattle.cell_rules.proofs.lemmas.Postures.{posture-after}
use Rattle.cell_rules.proofs.laws.posture_by_events.Goals as goal

pub returns : goal.returns
returns c =
    let s = c.args.opening.now in
    throughout s (PostureByEvents s) (λ h l z. sym (posture-after s h z l)) c.args.history.now c.requires
