use Rattle.plan_motors.proofs.lemmas.Lasting.{permission_lasts}
use Rattle.plan_motors.proofs.laws.permissions_last.Goals as goal

pub returns : goal.returns
returns c = permission_lasts c.lawful_histories.ensures c.args.plan.now c.args.motor.now c.args.opening.now c.args.before.now c.args.more.now c.machines.ensures.plan c.requires.motor c.requires.sound c.requires.legal c.requires.others c.requires.permitted
