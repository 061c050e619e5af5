use Rattle.std.proofs.Common.{subst}
use Rattle.plan_types.specs.Plan.{IsPlan}
use Rattle.plan_word.proofs.lemmas.Staying.{start_stays}
use Rattle.plan_interlock.proofs.laws.starts_can_open.Goals as goal

pub returns : goal.returns
returns c =
    let is_plan = subst IsPlan c.plan.ensures c.machines.ensures.plan in
    (is_plan, start_stays c.args.rules.now.plan.table c.args.opening.now is_plan c.requires.start c.requires.places)
