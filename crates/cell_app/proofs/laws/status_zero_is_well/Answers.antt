use Rattle.cell_app.proofs.LawLemmas.{well}
use Rattle.cell_app.proofs.laws.status_zero_is_well.Goals as goal

pub returns : goal.returns
returns c = well
