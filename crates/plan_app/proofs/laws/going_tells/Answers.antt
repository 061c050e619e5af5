use Rattle.plan_app.proofs.GoingTold.{going-tells}
use Rattle.plan_app.proofs.laws.going_tells.Goals as goal

pub returns : goal.returns
returns c = going-tells
