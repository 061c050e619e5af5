use Rattle.cell_interlock.proofs.lemmas.Order.{receipts_order_calls, receipts_raise_stamps}
use Rattle.cell_interlock.proofs.laws.receipts_order_calls.Goals as goal

pub returns : goal.returns
returns c = record { order = receipts_order_calls; stamps = receipts_raise_stamps }
