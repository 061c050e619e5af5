use Rattle.plan_app.proofs.StarvingRows.{starving-known}
use Rattle.plan_app.proofs.laws.starving_is_known.Goals as goal

pub returns : goal.returns
returns c = starving-known
