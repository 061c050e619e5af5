use Rattle.plan_header.proofs.PlantHeaderRows.{plant-lines, plant-texts}
use Rattle.plan_header.proofs.laws.plant_headers_are_met.Goals as goal

pub returns : goal.returns
returns c = record { lines = plant-lines; texts = plant-texts }
