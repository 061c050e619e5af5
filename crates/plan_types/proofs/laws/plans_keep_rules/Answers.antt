use Rattle.plan_types.proofs.Rules.{rules_of_plan, plan_by_rules}
use Rattle.plan_types.proofs.laws.plans_keep_rules.Goals as goal

pub returns : goal.returns
returns c = λ t. (rules_of_plan t, plan_by_rules t)
