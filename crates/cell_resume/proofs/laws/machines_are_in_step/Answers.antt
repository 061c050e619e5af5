use Rattle.cell_resume.proofs.StaysInStep.{are_in_step}
use Rattle.cell_resume.proofs.laws.machines_are_in_step.Goals as goal

pub returns : goal.returns
returns c = are_in_step
