use Rattle.cell_plant.proofs.Names.{cell_gauges}
use Rattle.cell_plant.specs.Cells.{cell_scales}
use Rattle.cell_plant.proofs.lemmas.Gauged.{by_gauges}
use Rattle.cell_plant.proofs.laws.runs_are_by_gauges.Goals as goal

pub returns : goal.returns
returns g c = by_gauges (cell_scales c.args._cell.now) (cell_gauges c.args._cell.now)
