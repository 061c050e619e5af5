use Rattle.cell_threads.proofs.lemmas.Telling.{ends}
use Rattle.cell_threads.proofs.laws.workers_end.Goals as goal

pub returns : goal.returns
returns g c = ends _ _
