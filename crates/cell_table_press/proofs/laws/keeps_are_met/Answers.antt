use Rattle.cell_table_press.proofs.KeepRows.{keeps_are_met}
use Rattle.cell_table_press.proofs.laws.keeps_are_met.Goals as goal

pub returns : goal.returns
returns c = keeps_are_met
