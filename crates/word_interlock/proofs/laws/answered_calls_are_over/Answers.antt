use Rattle.word_interlock.proofs.lemmas.Running.{answered_calls_are_over}
use Rattle.word_interlock.proofs.laws.answered_calls_are_over.Goals as goal

pub returns : goal.returns
returns g c = answered_calls_are_over (g.R.Rules.book c.args.rules.now) (g.met.R.Rules.lawful c.args.rules.now) _
