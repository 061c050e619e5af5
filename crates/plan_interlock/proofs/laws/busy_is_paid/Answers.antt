use Rattle.plan_interlock.proofs.Order.{busy_is_paid}
use Rattle.plan_interlock.proofs.laws.busy_is_paid.Goals as goal

pub returns : goal.returns
returns c tries = busy_is_paid c.args.rules.now.plan.table tries
