use Rattle.plan_interlock.proofs.Seen.{rights_last}
use Rattle.plan_interlock.proofs.laws.rights_last.Goals as goal

pub returns : goal.returns
returns c = rights_last c.args.rules.now.plan.table
