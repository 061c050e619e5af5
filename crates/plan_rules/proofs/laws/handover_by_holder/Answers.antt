use Rattle.plan_rules.proofs.Fitting.{handover_by_holder}
use Rattle.plan_rules.proofs.laws.handover_by_holder.Goals as goal

pub returns : goal.returns
returns c = handover_by_holder c.args.plan.now c.args.opening.now c.machines.ensures.plan c.requires.sound c.args.history.now c.requires.legal
