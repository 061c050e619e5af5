use Rattle.cell_rules.proofs.Unbarred.{what_moves_may_stop}
use Rattle.cell_rules.proofs.laws.what_moves_may_stop.Goals as goal

pub returns : goal.returns
returns c = what_moves_may_stop
