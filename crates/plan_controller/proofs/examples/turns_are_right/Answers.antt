use Rattle.plan_controller.proofs.Rows as rows
use Rattle.plan_controller.proofs.examples.turns_are_right.Goals as goal

pub returns : goal.returns
returns c = rows.turns_are_right
