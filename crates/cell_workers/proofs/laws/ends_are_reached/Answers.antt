use Rattle.cell_workers.proofs.Ending.{ends_reached}
use Rattle.cell_workers.proofs.laws.ends_are_reached.Goals as goal

pub returns : goal.returns
returns c = ends_reached
