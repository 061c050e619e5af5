use Rattle.cell_app.proofs.TextLemmas.{one_reports}
use Rattle.cell_app.proofs.laws.reports_are_one.Goals as goal

pub returns : goal.returns
returns c = one_reports c.one_position.ensures
