use Rattle.plan_app.proofs.InputRows.{inputs-split}
use Rattle.plan_app.proofs.laws.inputs_are_split.Goals as goal

pub returns : goal.returns
returns c = inputs-split
