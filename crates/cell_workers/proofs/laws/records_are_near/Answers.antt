use Rattle.cell_plant.specs.Cells.{cell_gauges, cell_scales}
use Rattle.cell_workers.proofs.lemmas.Recording.{work_near}
use Rattle.cell_workers.proofs.laws.records_are_near.Goals as goal

pub returns : goal.returns
returns g c = λ opening tries limit r k.
    work_near (cell_scales c.args._cell.now) (cell_gauges c.args._cell.now) opening tries limit (g.G.Gate.may_answer c.args._gate.now) r k
