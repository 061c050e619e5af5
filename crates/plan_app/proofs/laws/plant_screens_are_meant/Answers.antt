use Rattle.plan_app.proofs.PlantScreenRows.{plant_screens_meant}
use Rattle.plan_app.proofs.laws.plant_screens_are_meant.Goals as goal

pub returns : goal.returns
returns c = plant_screens_meant
