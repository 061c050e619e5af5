use Rattle.cell_control.proofs.lemmas.WaitLemmas.{wait-rows}
use Rattle.cell_control.proofs.laws.waits_by_refusals.Goals as goal

pub returns : goal.returns
returns c = wait-rows
