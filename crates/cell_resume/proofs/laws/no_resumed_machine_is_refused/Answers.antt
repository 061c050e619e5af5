use Rattle.cell_resume.proofs.StaysInStep.{none_refused}
use Rattle.cell_resume.proofs.laws.no_resumed_machine_is_refused.Goals as goal

pub returns : goal.returns
returns c = none_refused
