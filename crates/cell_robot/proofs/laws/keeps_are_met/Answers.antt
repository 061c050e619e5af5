use Rattle.cell_robot.proofs.KeepRows.{keeps_are_met}
use Rattle.cell_robot.proofs.laws.keeps_are_met.Goals as goal

pub returns : goal.returns
returns c = keeps_are_met
