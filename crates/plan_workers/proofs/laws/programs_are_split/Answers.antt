use Rattle.plan_workers.proofs.PlantLaws as plant
use Rattle.plan_workers.proofs.laws.programs_are_split.Goals as goal

pub returns : goal.returns
returns c = plant.programs_are_split
