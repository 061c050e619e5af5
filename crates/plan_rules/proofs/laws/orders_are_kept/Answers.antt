use Rattle.plan_rules.proofs.Orders.{orders_are_kept}
use Rattle.plan_rules.proofs.laws.orders_are_kept.Goals as goal

pub returns : goal.returns
returns c = orders_are_kept
