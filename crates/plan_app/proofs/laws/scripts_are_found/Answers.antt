use Rattle.plan_app.proofs.ScriptsFound.{scripts-found}
use Rattle.plan_app.proofs.laws.scripts_are_found.Goals as goal

pub returns : goal.returns
returns c = scripts-found
