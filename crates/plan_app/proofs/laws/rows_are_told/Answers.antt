use Rattle.plan_app.proofs.LineRows.{rows-told}
use Rattle.plan_app.proofs.laws.rows_are_told.Goals as goal

pub returns : goal.returns
returns c = rows-told
