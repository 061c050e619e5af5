use Rattle.plan_app.proofs.GoingRows.{machines-told}
use Rattle.plan_app.proofs.laws.machines_are_told.Goals as goal

pub returns : goal.returns
returns c = machines-told
