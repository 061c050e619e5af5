use Rattle.plan_rules.proofs.Refusing.{refusals_tell}
use Rattle.plan_rules.proofs.laws.refusals_tell_causes.Goals as goal

pub returns : goal.returns
returns c = refusals_tell
