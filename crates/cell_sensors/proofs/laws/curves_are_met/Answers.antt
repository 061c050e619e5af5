use Rattle.cell_sensors.proofs.CurveFigures.{curve_figures}
use Rattle.cell_sensors.proofs.laws.curves_are_met.Goals as goal

pub returns : goal.returns
returns c = curve_figures
