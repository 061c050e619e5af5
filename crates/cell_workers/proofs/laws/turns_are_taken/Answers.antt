use Rattle.cell_workers.proofs.lemmas.Telling.{turns_taken}
use Rattle.cell_workers.proofs.laws.turns_are_taken.Goals as goal

pub returns : goal.returns
returns c = turns_taken
