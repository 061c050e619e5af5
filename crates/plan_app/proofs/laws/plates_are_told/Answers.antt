use Rattle.plan_app.proofs.WordRows.{plates-told}
use Rattle.plan_app.proofs.laws.plates_are_told.Goals as goal

pub returns : goal.returns
returns c = plates-told
