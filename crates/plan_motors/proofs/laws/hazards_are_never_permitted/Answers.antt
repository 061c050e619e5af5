use Rattle.plan_motors.proofs.lemmas.Lasting.{never_after}
use Rattle.plan_motors.proofs.laws.hazards_are_never_permitted.Goals as goal

pub returns : goal.returns
returns c = never_after c.args.plan.now c.args.first.now c.args.second.now c.args.opening.now c.args.history.now c.machines.ensures.plan c.requires.excluded c.requires.sound c.requires.permitted
