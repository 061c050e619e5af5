use Rattle.plan_rules.proofs.AdvanceRows.{advances_are_met}
use Rattle.plan_rules.proofs.examples.advances_are_met.Goals as goal

pub returns : goal.returns
returns c = advances_are_met
