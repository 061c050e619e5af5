use Rattle.plan_app.proofs.ScreenRows.{standstill-lines}
use Rattle.plan_app.proofs.laws.standstills_are_told.Goals as goal

pub returns : goal.returns
returns c = standstill-lines
