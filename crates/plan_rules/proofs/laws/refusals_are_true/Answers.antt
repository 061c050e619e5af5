use Rattle.plan_rules.proofs.Truth.{refusals_are_true}
use Rattle.plan_rules.proofs.laws.refusals_are_true.Goals as goal

pub returns : goal.returns
returns c = refusals_are_true
