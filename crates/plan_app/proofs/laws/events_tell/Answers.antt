use Rattle.plan_app.proofs.EventsTold.{events-tell}
use Rattle.plan_app.proofs.laws.events_tell.Goals as goal

pub returns : goal.returns
returns c = events-tell
