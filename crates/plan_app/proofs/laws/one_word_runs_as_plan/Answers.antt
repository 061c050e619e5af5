use Rattle.plan_app.proofs.PlantRunRows.{one_word}
use Rattle.plan_app.proofs.laws.one_word_runs_as_plan.Goals as goal

pub returns : goal.returns
returns c = one_word
