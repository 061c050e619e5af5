use Rattle.cell_app.proofs.AskLemmas.{served}
use Rattle.cell_app.proofs.laws.words_are_served.Goals as goal

pub returns : goal.returns
returns c = served
