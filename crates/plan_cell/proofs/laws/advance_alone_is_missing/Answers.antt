use Rattle.plan_cell.proofs.OwnRules.{advance_alone}
use Rattle.plan_cell.proofs.laws.advance_alone_is_missing.Goals as goal

pub returns : goal.returns
returns c = advance_alone
