use Rattle.cell_sensors.proofs.Rounding.{roundings}
use Rattle.cell_sensors.proofs.laws.roundings_are_met.Goals as goal

pub returns : goal.returns
returns c = roundings
