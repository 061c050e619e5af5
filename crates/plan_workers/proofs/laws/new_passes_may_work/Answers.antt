use Rattle.plan_workers.proofs.PlantClosing.{new_is_of_plant}
use Rattle.plan_workers.proofs.laws.new_passes_may_work.Goals as goal

pub returns : goal.returns
returns c = new_is_of_plant
