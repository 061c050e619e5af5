use Rattle.cell_team.proofs.lemmas.Stopping.{none-stopped}
use Rattle.cell_team.proofs.laws.no_machine_is_stopped.Goals as goal

pub returns : goal.returns
returns c = none-stopped
