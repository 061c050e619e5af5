use Rattle.plan_controller.proofs.Rows as rows
use Rattle.plan_controller.proofs.examples.faults_are_right.Goals as goal

pub returns : goal.returns
returns c = rows.faults_are_right
