use Rattle.word_interlock.proofs.lemmas.Running.{runs_are_ends}
use Rattle.word_interlock.proofs.laws.runs_are_ends.Goals as goal

pub returns : goal.returns
returns g c = runs_are_ends (g.R.Rules.book c.args.rules.now) _
