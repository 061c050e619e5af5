use Rattle.word_interlock.proofs.lemmas.Settling.{busy_is_paid}
use Rattle.word_interlock.proofs.laws.busy_is_paid.Goals as goal

pub returns : goal.returns
returns g c tries = busy_is_paid (g.R.Rules.book c.args.rules.now) (g.met.R.Rules.lawful c.args.rules.now) tries
