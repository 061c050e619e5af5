use Rattle.word_interlock.proofs.lemmas.One.{history_is_seen}
use Rattle.word_interlock.proofs.laws.history_is_seen.Goals as goal

pub returns : goal.returns
returns g c = history_is_seen (g.R.Rules.book c.args.rules.now) (g.met.R.Rules.lawful c.args.rules.now) c.args.rules.now (Unit {0})
