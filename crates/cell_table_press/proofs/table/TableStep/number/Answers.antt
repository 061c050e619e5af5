use Rattle.cell_table_press.proofs.lemmas.StepNumbers.{table_tag}
use Rattle.cell_table_press.proofs.table.TableStep.number.Goals as goal

pub returns : goal.returns
returns c = table_tag c.args.self
