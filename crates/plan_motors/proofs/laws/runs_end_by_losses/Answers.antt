use Rattle.plan_motors.proofs.lemmas.Running.{one_more}
use Rattle.plan_motors.proofs.laws.runs_end_by_losses.Goals as goal

pub returns : goal.returns
returns c = one_more c.args.plan.now c.args.motor.now c.args.opening.now c.args.read.now c.args.since.now c.args.event
