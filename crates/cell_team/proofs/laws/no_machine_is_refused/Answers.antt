use Rattle.cell_team.proofs.lemmas.Together.{none-refused}
use Rattle.cell_team.proofs.laws.no_machine_is_refused.Goals as goal

pub returns : goal.returns
returns c = none-refused
