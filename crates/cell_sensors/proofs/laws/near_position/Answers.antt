use Rattle.cell_sensors.proofs.lemmas.LineLemmas.{near_position_lem}
use Rattle.cell_sensors.proofs.laws.near_position.Goals as goal

pub returns : goal.returns
returns c = near_position_lem
