use Rattle.plan_app.proofs.HazardsTold.{hazards-tell}
use Rattle.plan_app.proofs.laws.hazards_tell.Goals as goal

pub returns : goal.returns
returns c = hazards-tell
