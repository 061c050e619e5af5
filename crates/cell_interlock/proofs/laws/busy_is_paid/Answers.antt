use Rattle.cell_interlock.proofs.Settling.{busy_is_paid}
use Rattle.cell_interlock.proofs.laws.busy_is_paid.Goals as goal

pub returns : goal.returns
returns c = busy_is_paid
