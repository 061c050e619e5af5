use Rattle.explore_app.proofs.ScreenRows.{each-met, requests-met, screens-met}
use Rattle.explore_app.proofs.laws.screens_are_met.Goals as goal

pub returns-clause-screens : goal.returns-clause-screens
returns-clause-screens c = screens-met

pub returns-clause-each : goal.returns-clause-each
returns-clause-each c = each-met

pub returns-clause-requests : goal.returns-clause-requests
returns-clause-requests c = requests-met
