use Rattle.cell_team.proofs.NextCallRows.{next-calls-heeded}
use Rattle.cell_team.proofs.laws.next_calls_are_heeded.Goals as goal

pub returns : goal.returns
returns c = next-calls-heeded
