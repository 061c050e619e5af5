use Rattle.plan_rules.proofs.lemmas.Plain.{plain_plans_stay}
use Rattle.plan_rules.proofs.laws.plain_plans_stay.Goals as goal

pub returns : goal.returns
returns c = plain_plans_stay
