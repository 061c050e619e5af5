use Rattle.cell_table_press.proofs.PressRows.{press-rows}
use Rattle.cell_table_press.proofs.laws.press_rows_are_met.Goals as goal

pub returns : goal.returns
returns c = press-rows
