use Rattle.plan_app.proofs.WordRows.{words-told}
use Rattle.plan_app.proofs.laws.words_are_told.Goals as goal

pub returns : goal.returns
returns c = words-told
