use Rattle.plan_interlock.proofs.Permitting.{surveys_permit_the_same}
use Rattle.plan_interlock.proofs.laws.surveys_permit_the_same.Goals as goal

pub returns : goal.returns
returns c = surveys_permit_the_same c.words_are_laid_out.ensures c.args.rules.now.plan.table
