use Rattle.plan_app.proofs.ScreenRows.{answers-meant}
use Rattle.plan_app.proofs.laws.answers_are_meant.Goals as goal

pub returns : goal.returns
returns c = answers-meant
