use Rattle.plan_rules.proofs.lemmas.Starts.{start_is_sound}
use Rattle.plan_rules.proofs.laws.starts_are_sound.Goals as goal

pub returns : goal.returns
returns c =
    start_is_sound c.args.plan.now c.args.opening.now c.machines.ensures.plan c.requires
