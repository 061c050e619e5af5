use Rattle.plan_app.proofs.PageLegal.{pages-tell}
use Rattle.plan_app.proofs.laws.pages_tell.Goals as goal

pub returns : goal.returns
returns c = pages-tell
