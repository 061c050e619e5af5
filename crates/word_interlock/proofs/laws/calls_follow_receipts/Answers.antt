use Rattle.word_interlock.proofs.lemmas.Running.{calls_follow_receipts}
use Rattle.word_interlock.proofs.laws.calls_follow_receipts.Goals as goal

pub returns : goal.returns
returns g c = calls_follow_receipts (g.R.Rules.book c.args.rules.now) _
