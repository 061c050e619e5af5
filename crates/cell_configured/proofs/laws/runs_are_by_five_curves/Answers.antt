use Rattle.cell_configured.proofs.Five.{beginnings, runs}
use Rattle.cell_configured.proofs.laws.runs_are_by_five_curves.Goals as goal

pub returns-clause-runs : goal.returns-clause-runs
returns-clause-runs g c = runs g.W.Observer.sees

pub returns-clause-beginnings : goal.returns-clause-beginnings
returns-clause-beginnings g c = beginnings g.W.Observer.sees
