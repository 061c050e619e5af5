use Rattle.plan_interlock.proofs.Order.{calls_keep_order}
use Rattle.plan_interlock.proofs.laws.calls_keep_order.Goals as goal

pub returns : goal.returns
returns c = calls_keep_order c.args.rules.now.plan.table
