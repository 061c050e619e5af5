use Rattle.plan_types.proofs.FirstFaults.{first_told}
use Rattle.plan_types.proofs.laws.first_faults_are_told.Goals as goal

pub returns : goal.returns
returns c = λ t fault earlier found. first_told t fault found earlier
