use Rattle.plan_motors.proofs.lemmas.Running.{only_done_loses}
use Rattle.plan_motors.proofs.laws.only_done_calls_lose.Goals as goal

pub returns : goal.returns
returns c = only_done_loses c.args.plan.now c.args.state.now c.args.machine c.args.call c.args.motor.now c.requires
