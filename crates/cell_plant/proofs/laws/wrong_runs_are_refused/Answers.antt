use Rattle.cell_plant.proofs.RunRows.{schedule_examples}
use Rattle.cell_plant.proofs.TurnRows.{turn_examples, pass_examples}
use Rattle.cell_plant.proofs.laws.wrong_runs_are_refused.Goals as goal

pub returns : goal.returns
returns c = λ scales. record { turns = turn_examples scales; passes = pass_examples; runs = schedule_examples scales }
