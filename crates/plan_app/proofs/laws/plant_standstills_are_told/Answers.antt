use Rattle.plan_app.proofs.PlantScreenRows.{crossings_told, lines_told}
use Rattle.plan_app.proofs.laws.plant_standstills_are_told.Goals as goal

pub returns-clause-crossings : goal.returns-clause-crossings
returns-clause-crossings c = crossings_told

pub returns-clause-apart : goal.returns-clause-apart
returns-clause-apart c = lines_told
