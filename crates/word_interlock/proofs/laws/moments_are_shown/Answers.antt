use Rattle.word_interlock.proofs.lemmas.One.{moments_are_shown}
use Rattle.word_interlock.proofs.laws.moments_are_shown.Goals as goal

pub returns : goal.returns
returns g c = moments_are_shown (g.R.Rules.book c.args.rules.now) (g.met.R.Rules.lawful c.args.rules.now) c.args.rules.now (Unit {0})
