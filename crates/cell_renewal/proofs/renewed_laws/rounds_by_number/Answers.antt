use Rattle.cell_renewal.proofs.RoundNumbers.{rounds-by-number}
use Rattle.cell_renewal.proofs.renewed_laws.rounds_by_number.Goals as goal

pub returns : goal.returns
returns c = rounds-by-number
