use Rattle.cell_workers.proofs.lemmas.Telling as telling
use Rattle.cell_workers.proofs.laws.workers_end.Goals as goal

pub returns : goal.returns
returns c = telling.workers_end
