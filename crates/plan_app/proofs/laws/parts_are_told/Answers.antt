use Rattle.plan_app.proofs.PartRows.{parts-told}
use Rattle.plan_app.proofs.laws.parts_are_told.Goals as goal

pub returns : goal.returns
returns c = parts-told
