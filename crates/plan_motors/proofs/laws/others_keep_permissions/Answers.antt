use Rattle.plan_motors.proofs.lemmas.Lasting.{next_permits}
use Rattle.plan_motors.proofs.laws.others_keep_permissions.Goals as goal

pub returns : goal.returns
returns c = next_permits c.lawful_histories.ensures c.args.plan.now c.args.motor.now c.args.state.now c.args.machine c.args.call c.machines.ensures.plan c.requires.motor c.requires.sound c.requires.other c.requires.permitted
