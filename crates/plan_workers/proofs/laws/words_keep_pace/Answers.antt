use Rattle.plan_workers.proofs.PlantLaws as plant
use Rattle.plan_workers.proofs.laws.words_keep_pace.Goals as goal

pub returns : goal.returns
returns c = plant.words_keep_pace
