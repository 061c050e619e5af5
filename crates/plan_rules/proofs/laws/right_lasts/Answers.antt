use Rattle.plan_rules.proofs.Lasting.{right_lasts}
use Rattle.plan_rules.proofs.laws.right_lasts.Goals as goal

pub returns : goal.returns
returns c =
    right_lasts c.args.plan.now c.args.opening.now c.args.before.now c.args.more.now c.machines.ensures.plan c.requires.sound c.requires.legal
