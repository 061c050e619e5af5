use Rattle.plan_motors.proofs.RunRows.{runs_are_right}
use Rattle.plan_motors.proofs.examples.runs_are_right.Goals as goal

pub returns : goal.returns
returns c = runs_are_right c.lawful_histories.ensures
