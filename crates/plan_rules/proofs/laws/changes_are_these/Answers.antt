use Rattle.plan_rules.proofs.CallChanges.{changes_are_these}
use Rattle.plan_rules.proofs.laws.changes_are_these.Goals as goal

pub returns : goal.returns
returns c = changes_are_these
