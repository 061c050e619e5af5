use Rattle.explain_app.proofs.ExplainRows.{statuses-tell}
use Rattle.explain_app.proofs.laws.statuses_tell.Goals as goal

pub returns : goal.returns
returns c = statuses-tell
