use Rattle.cell_plant.specs.Cells.{cell_gauges, cell_scales}
use Rattle.cell_workers.proofs.Moments.{moments-told}
use Rattle.cell_workers.proofs.laws.records_tell_moments.Goals as goal

pub returns : goal.returns
returns g c = λ opening tries limit r k.
    moments-told (cell_scales c.args._cell.now) (cell_gauges c.args._cell.now) (g.G.Gate.may_answer c.args._gate.now) opening tries limit r k
