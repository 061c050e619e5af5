use Rattle.cell_devices.proofs.Figures.{devices_are_met}
use Rattle.cell_devices.proofs.laws.devices_are_met.Goals as goal

pub returns : goal.returns
returns c = devices_are_met
