use Rattle.plan_app.proofs.GoingRows.{walks-told}
use Rattle.plan_app.proofs.laws.walks_are_told.Goals as goal

pub returns : goal.returns
returns c = walks-told
