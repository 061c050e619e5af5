use Rattle.plan_app.proofs.ReportsTold.{reports-tell}
use Rattle.plan_app.proofs.laws.reports_tell.Goals as goal

pub returns : goal.returns
returns c = reports-tell
