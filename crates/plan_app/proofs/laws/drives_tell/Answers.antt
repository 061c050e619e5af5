use Rattle.plan_app.proofs.DrivesTold.{drives-tell}
use Rattle.plan_app.proofs.laws.drives_tell.Goals as goal

pub returns : goal.returns
returns c = drives-tell
