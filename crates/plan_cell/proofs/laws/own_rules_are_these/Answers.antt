use Rattle.plan_cell.proofs.DoesNoMore.{does_no_more}
use Rattle.plan_cell.proofs.OwnRulesHere.{own_rules_are_these}
use Rattle.plan_cell.proofs.laws.own_rules_are_these.Goals as goal

pub returns : goal.returns
returns c = own_rules_are_these does_no_more
