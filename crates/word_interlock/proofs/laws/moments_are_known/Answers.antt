use Rattle.word_interlock.proofs.Examples.{moment_examples}
use Rattle.word_interlock.proofs.laws.moments_are_known.Goals as goal

pub returns : goal.returns
returns g c = moment_examples (g.R.Rules.book c.args.rules.now) (g.met.R.Rules.lawful c.args.rules.now) _
