use Rattle.cell_resume.proofs.StaysInStep.{stay_in_step}
use Rattle.cell_resume.proofs.laws.resumed_machines_stay_in_step.Goals as goal

pub returns : goal.returns
returns c = stay_in_step
