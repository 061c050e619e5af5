use Rattle.plan_app.proofs.PlantPictureRows.{plant-pictures-tell}
use Rattle.plan_app.proofs.laws.plant_pictures_tell.Goals as goal

pub returns : goal.returns
returns c = plant-pictures-tell c.all_is_drawn.ensures
