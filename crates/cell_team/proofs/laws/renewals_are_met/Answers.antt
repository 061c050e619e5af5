use Rattle.cell_team.proofs.RenewalRows.{renewals_are_met}
use Rattle.cell_team.proofs.laws.renewals_are_met.Goals as goal

pub returns : goal.returns
returns c = renewals_are_met
