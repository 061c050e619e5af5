use Rattle.plan_app.proofs.CountsTold.{counts-tell}
use Rattle.plan_app.proofs.laws.counts_tell.Goals as goal

pub returns : goal.returns
returns c = counts-tell
