use Rattle.plan_app.proofs.OnWordRows.{words-tell}
use Rattle.plan_app.proofs.laws.words_tell.Goals as goal

pub returns : goal.returns
returns c = words-tell
