use Rattle.plan_app.proofs.InputRows.{words-made}
use Rattle.plan_app.proofs.laws.words_are_made.Goals as goal

pub returns : goal.returns
returns c = words-made
