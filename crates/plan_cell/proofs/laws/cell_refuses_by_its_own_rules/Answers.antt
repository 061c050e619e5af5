use Rattle.plan_cell.proofs.DoesNoMore.{does_no_more}
use Rattle.plan_cell.proofs.laws.cell_refuses_by_its_own_rules.Goals as goal

pub returns : goal.returns
returns c = does_no_more
