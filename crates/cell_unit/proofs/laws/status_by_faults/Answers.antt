use Rattle.cell_unit.proofs.LiteralTurns.{status-rows}
use Rattle.cell_unit.proofs.laws.status_by_faults.Goals as goal

pub returns : goal.returns
returns c = status-rows
