use Rattle.cell_parts.proofs.AtWork.{demands_can_be_met}
use Rattle.cell_parts.proofs.laws.demands_can_be_met.Goals as goal

pub returns : goal.returns
returns c = demands_can_be_met
