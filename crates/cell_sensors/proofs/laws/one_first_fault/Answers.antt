use Rattle.cell_sensors.proofs.CurveFaultLemmas.{one_fault}
use Rattle.cell_sensors.proofs.laws.one_first_fault.Goals as goal

pub returns : goal.returns
returns c = one_fault
