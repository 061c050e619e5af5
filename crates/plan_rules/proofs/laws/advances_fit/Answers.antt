use Rattle.plan_rules.proofs.Fitting.{advances_fit}
use Rattle.plan_rules.proofs.laws.advances_fit.Goals as goal

pub returns : goal.returns
returns c = advances_fit c.args.plan.now c.args.opening.now c.args.history.now c.requires
