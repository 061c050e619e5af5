use Rattle.word_interlock.proofs.lemmas.Receipts.{receipts_come_first}
use Rattle.word_interlock.proofs.laws.receipts_come_first.Goals as goal

pub returns : goal.returns
returns g c = receipts_come_first (g.R.Rules.book c.args.rules.now) (g.met.R.Rules.lawful c.args.rules.now) c.args.rules.now (Unit {0})
