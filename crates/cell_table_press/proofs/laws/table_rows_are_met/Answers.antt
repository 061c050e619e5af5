use Rattle.cell_table_press.proofs.TableRows.{table-rows}
use Rattle.cell_table_press.proofs.laws.table_rows_are_met.Goals as goal

pub returns : goal.returns
returns c = table-rows
