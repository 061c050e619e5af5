use Rattle.cell_app.proofs.LawLemmas.{lines}
use Rattle.cell_app.proofs.laws.fault_lines_are_met.Goals as goal

pub returns : goal.returns
returns c = lines
