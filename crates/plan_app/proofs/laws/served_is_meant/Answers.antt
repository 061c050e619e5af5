use Rattle.plan_app.proofs.ScreenRows.{served-meant}
use Rattle.plan_app.proofs.laws.served_is_meant.Goals as goal

pub returns : goal.returns
returns c = served-meant
