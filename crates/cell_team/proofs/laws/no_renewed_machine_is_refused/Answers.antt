use Rattle.cell_team.proofs.lemmas.Renewed.{none_refused_renewed}
use Rattle.cell_team.proofs.laws.no_renewed_machine_is_refused.Goals as goal

pub returns : goal.returns
returns c = none_refused_renewed
