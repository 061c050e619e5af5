use Rattle.plan_interlock.proofs.Order.{history_is_one}
use Rattle.plan_interlock.proofs.laws.history_is_one.Goals as goal

pub returns : goal.returns
returns c = history_is_one c.args.rules.now
