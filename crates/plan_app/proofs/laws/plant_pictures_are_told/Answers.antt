use Rattle.plan_app.proofs.PlantPictureRows.{plant-pictures-told}
use Rattle.plan_app.proofs.laws.plant_pictures_are_told.Goals as goal

pub returns : goal.returns
returns c = plant-pictures-told
