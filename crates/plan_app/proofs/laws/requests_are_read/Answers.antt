use Rattle.plan_app.proofs.InputRows.{requests-read}
use Rattle.plan_app.proofs.laws.requests_are_read.Goals as goal

pub returns : goal.returns
returns c = requests-read
