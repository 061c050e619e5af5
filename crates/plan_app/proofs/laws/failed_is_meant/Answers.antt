use Rattle.plan_app.proofs.FailedRows.{failed-meant}
use Rattle.plan_app.proofs.laws.failed_is_meant.Goals as goal

pub returns : goal.returns
returns c = failed-meant
