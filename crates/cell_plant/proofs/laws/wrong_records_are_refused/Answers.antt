use Rattle.cell_plant.proofs.RecordRows.{record_examples}
use Rattle.cell_plant.proofs.laws.wrong_records_are_refused.Goals as goal

pub returns : goal.returns
returns c = record_examples
