use Rattle.plan_interlock.proofs.Seen.{passes_see_laws}
use Rattle.plan_interlock.proofs.laws.passes_see_laws.Goals as goal

pub returns : goal.returns
returns c = passes_see_laws c.args.rules.now.plan.table
