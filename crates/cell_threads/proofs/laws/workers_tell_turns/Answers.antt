use Rattle.cell_threads.proofs.lemmas.Telling.{workers_tell}
use Rattle.cell_threads.proofs.laws.workers_tell_turns.Goals as goal

pub returns : goal.returns
returns g c = workers_tell _ _
