use Rattle.cell_interlock.proofs.Outcomes.{outcomes_are_known}
use Rattle.cell_interlock.proofs.laws.outcomes_are_known.Goals as goal

pub returns : goal.returns
returns c = outcomes_are_known
