use Rattle.plan_app.proofs.ScreenRows.{kinds-of-screens}
use Rattle.plan_app.proofs.laws.screens_differ.Goals as goal

pub returns : goal.returns
returns c = kinds-of-screens
