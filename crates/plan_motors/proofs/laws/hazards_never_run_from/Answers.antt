use Rattle.plan_motors.proofs.lemmas.Running.{never_run_from}
use Rattle.plan_motors.proofs.laws.hazards_never_run_from.Goals as goal

pub returns : goal.returns
returns c = never_run_from c.lawful_histories.ensures c.args.plan.now c.args.first.now c.args.second.now c.args.opening.now c.args.history.now c.machines.ensures.plan c.requires.first c.requires.second c.requires.never c.requires.sound c.requires.legal c.requires.runs
