use Rattle.plan_motors.proofs.lemmas.Running.{may_run_permits, permitted_may_run}
use Rattle.plan_motors.proofs.laws.may_run_is_permitted.Goals as goal

pub returns : goal.returns
returns c = (may_run_permits c.lawful_histories.ensures c.args.plan.now c.args.motor.now c.args.opening.now c.args.history.now c.machines.ensures.plan c.requires.motor c.requires.sound, permitted_may_run c.args.plan.now c.args.motor.now c.args.opening.now c.args.history.now)
