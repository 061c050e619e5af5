use Rattle.explain_app.proofs.ExplainRows.{explanations-met}
use Rattle.explain_app.proofs.laws.explanations_are_met.Goals as goal

pub returns : goal.returns
returns c = explanations-met
