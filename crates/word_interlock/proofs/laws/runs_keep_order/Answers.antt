use Rattle.word_interlock.proofs.lemmas.Running.{runs_keep_order}
use Rattle.word_interlock.proofs.laws.runs_keep_order.Goals as goal

pub returns : goal.returns
returns g c = runs_keep_order (g.R.Rules.book c.args.rules.now) (g.met.R.Rules.lawful c.args.rules.now)
