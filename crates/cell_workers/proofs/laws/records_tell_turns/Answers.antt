use Rattle.cell_workers.proofs.lemmas.Telling.{records_tell}
use Rattle.cell_workers.proofs.laws.records_tell_turns.Goals as goal

pub returns : goal.returns
returns c = records_tell
