use Rattle.cell_app.proofs.LawLemmas.{told}
use Rattle.cell_app.proofs.laws.turns_are_told.Goals as goal

pub returns : goal.returns
returns c = told
