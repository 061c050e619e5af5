use Rattle.plan_interlock.proofs.Permitting.{permissions_last}
use Rattle.plan_interlock.proofs.laws.permissions_last.Goals as goal

pub returns : goal.returns
returns c = permissions_last c.lawful_histories.ensures c.args.rules.now.plan.table
