use Rattle.word_interlock.proofs.lemmas.Ordering.{receipts_order_calls, receipts_raise_stamps}
use Rattle.word_interlock.proofs.laws.receipts_order_calls.Goals as goal

pub returns : goal.returns
returns g c =
    let b = g.R.Rules.book c.args.rules.now in let law = g.met.R.Rules.lawful c.args.rules.now in
    record { order = receipts_order_calls b law; stamps = receipts_raise_stamps b law }
