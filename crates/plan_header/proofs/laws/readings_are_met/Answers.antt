use Rattle.plan_header.proofs.HeaderRows.{reading-lines}
use Rattle.plan_header.proofs.laws.readings_are_met.Goals as goal

pub returns : goal.returns
returns c = reading-lines
