use Rattle.plan_word.proofs.lemmas.Staying.{start_stays}
use Rattle.plan_word.proofs.laws.starts_are_of_plan.Goals as goal

pub returns : goal.returns
returns c = start_stays c.args.plan.now c.args.opening.now c.machines.ensures.plan c.requires.start c.requires.places
