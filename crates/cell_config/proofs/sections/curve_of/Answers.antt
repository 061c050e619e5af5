use Rattle.cell_config.proofs.Names.{refl, false≢true}
use Rattle.cell_config.proofs.CurveChoices.{curve_made, no_curve}
use Rattle.cell_config.proofs.sections.curve_of.Goals as goal

pub returns-in-Ok-clause-value : goal.returns-in-Ok-clause-value
returns-in-Ok-clause-value c = curve_made c.args.points c.args.pairs.now _ (c.in-Ok.ensures.ok.0 refl) c.in-Ok.ensures.pairs

pub returns-in-Err-clause-value : goal.returns-in-Err-clause-value
returns-in-Err-clause-value c = no_curve c.args.points c.args.pairs.now (λ curve. false≢true (c.in-Err.ensures.ok.1 curve))
