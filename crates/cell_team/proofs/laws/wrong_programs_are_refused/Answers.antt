use Rattle.cell_team.proofs.WrongRows.{wrong-refused}
use Rattle.cell_team.proofs.laws.wrong_programs_are_refused.Goals as goal

pub returns : goal.returns
returns c = wrong-refused
