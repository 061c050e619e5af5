use Rattle.plan_word.proofs.lemmas.Staying.{next_stays}
use Rattle.plan_word.proofs.laws.stays_of_plan.Goals as goal

pub returns : goal.returns
returns c = next_stays c.args.plan.now c.args.state.now c.args.machine c.args.call c.machines.ensures.plan c.requires
