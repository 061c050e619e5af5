use Rattle.plan_rules.proofs.RefusedExactly.{calls_are_refused_exactly}
use Rattle.plan_rules.proofs.laws.calls_are_refused_exactly.Goals as goal

pub returns : goal.returns
returns c = calls_are_refused_exactly
