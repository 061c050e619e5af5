use Rattle.plan_app.proofs.LineRows.{whole-reports}
use Rattle.plan_app.proofs.laws.reports_are_whole.Goals as goal

pub returns : goal.returns
returns c = whole-reports
