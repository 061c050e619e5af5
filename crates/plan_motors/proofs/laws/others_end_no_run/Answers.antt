use Rattle.plan_motors.proofs.lemmas.Running.{others_end_none}
use Rattle.plan_motors.proofs.laws.others_end_no_run.Goals as goal

pub returns : goal.returns
returns c = others_end_none c.args.plan.now c.args.motor.now c.args.opening.now c.args.read.now c.args.since.now c.args.more.now c.requires.others c.requires.runs
