use Rattle.plan_app.proofs.ScreenRows.{screens-meant}
use Rattle.plan_app.proofs.laws.screens_are_meant.Goals as goal

pub returns : goal.returns
returns c = screens-meant
