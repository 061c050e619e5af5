use Rattle.plan_app.proofs.OnWordRows.{word-lines}
use Rattle.plan_app.proofs.laws.word_lines_are_met.Goals as goal

pub returns : goal.returns
returns c = word-lines
