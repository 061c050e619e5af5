use Rattle.std.proofs.Common.{refl}
use Rattle.plan_app.proofs.PlantRunRows.{plant_run_rows}
use Rattle.plan_app.proofs.laws.plant_run_texts_are_told.Goals as goal

pub returns-clause-texts : goal.returns-clause-texts
returns-clause-texts c = plant_run_rows

pub returns-clause-stops : goal.returns-clause-stops
returns-clause-stops c = refl
