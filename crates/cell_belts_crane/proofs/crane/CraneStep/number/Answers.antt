use Rattle.cell_belts_crane.proofs.lemmas.StepNumbers.{crane_tag}
use Rattle.cell_belts_crane.proofs.crane.CraneStep.number.Goals as goal

pub returns : goal.returns
returns c = crane_tag c.args.self
