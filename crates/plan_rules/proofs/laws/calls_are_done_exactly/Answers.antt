use Rattle.plan_rules.proofs.DoneExactly.{done_exactly}
use Rattle.plan_rules.proofs.laws.calls_are_done_exactly.Goals as goal

pub returns : goal.returns
returns c = done_exactly
