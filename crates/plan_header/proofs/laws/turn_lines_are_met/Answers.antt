use Rattle.plan_header.proofs.TurnRows.{turn-lines}
use Rattle.plan_header.proofs.laws.turn_lines_are_met.Goals as goal

pub returns : goal.returns
returns c = turn-lines
