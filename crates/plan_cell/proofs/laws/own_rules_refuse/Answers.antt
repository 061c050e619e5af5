use Rattle.plan_cell.proofs.OwnRules.{own_rules_refuse}
use Rattle.plan_cell.proofs.laws.own_rules_refuse.Goals as goal

pub returns : goal.returns
returns c = own_rules_refuse
