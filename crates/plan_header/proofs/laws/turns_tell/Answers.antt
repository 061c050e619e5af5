use Rattle.plan_header.proofs.TurnRows.{turns-tell}
use Rattle.plan_header.proofs.laws.turns_tell.Goals as goal

pub returns : goal.returns
returns c = turns-tell
