use Rattle.plan_app.proofs.LineRows.{report-lines}
use Rattle.plan_app.proofs.laws.report_lines_are_met.Goals as goal

pub returns : goal.returns
returns c = report-lines
