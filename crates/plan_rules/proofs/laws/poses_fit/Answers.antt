use Rattle.plan_rules.proofs.Fitting.{poses_fit}
use Rattle.plan_rules.proofs.laws.poses_fit.Goals as goal

pub returns : goal.returns
returns c = poses_fit c.args.plan.now c.args.opening.now c.args.history.now c.requires
