use Rattle.plan_app.proofs.GoingRows.{event-lines}
use Rattle.plan_app.proofs.laws.events_are_told.Goals as goal

pub returns : goal.returns
returns c = event-lines
