use Rattle.cell_plant.proofs.Names.{cell_gauges}
use Rattle.cell_plant.specs.Cells.{cell_scales}
use Rattle.cell_plant.proofs.RunLaws.{ends-safely, runs-grow, runs-told}
use Rattle.cell_plant.proofs.laws.runs_are_told.Goals as goal

pub returns-clause-told : goal.returns-clause-told
returns-clause-told g c = runs-told (cell_scales c.args._cell.now) (cell_gauges c.args._cell.now)

pub returns-clause-grow : goal.returns-clause-grow
returns-clause-grow g c = runs-grow (cell_scales c.args._cell.now) (cell_gauges c.args._cell.now)

pub returns-clause-safe : goal.returns-clause-safe
returns-clause-safe g c = ends-safely
