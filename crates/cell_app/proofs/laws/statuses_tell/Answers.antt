use Rattle.cell_app.proofs.StatusLemmas.{statuses-tell}
use Rattle.cell_app.proofs.laws.statuses_tell.Goals as goal

pub returns : goal.returns
returns c = statuses-tell
