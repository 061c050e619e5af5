use Rattle.cell_threads.proofs.lemmas.Telling.{turns_taken}
use Rattle.cell_threads.proofs.laws.turns_are_taken.Goals as goal

pub returns : goal.returns
returns g c = turns_taken _ _
