use Rattle.cell_plant.proofs.Names.{cell_gauges}
use Rattle.cell_plant.specs.Cells.{cell_scales}
use Rattle.cell_plant.proofs.FineRuns.{had_memory}
use Rattle.cell_plant.proofs.lemmas.OneRecord.{says_one}
use Rattle.cell_plant.proofs.OneRun.{has_one_run}
use Rattle.cell_plant.proofs.laws.runs_are_one.Goals as goal

pub returns : goal.returns
returns g c =
    let scales = cell_scales c.args._cell.now in
    let gives = cell_gauges c.args._cell.now in
    record { one = has_one_run scales gives; fine = had_memory scales gives; told = says_one scales gives }
