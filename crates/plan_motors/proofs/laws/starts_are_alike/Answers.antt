use Rattle.plan_motors.proofs.Posing.{starts_alike}
use Rattle.plan_motors.proofs.laws.starts_are_alike.Goals as goal

pub returns : goal.returns
returns c = starts_alike c.args.plan.now c.args.one.now c.args.other.now c.requires.one c.requires.other
