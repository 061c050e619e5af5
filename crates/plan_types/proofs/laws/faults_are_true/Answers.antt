use Rattle.plan_types.proofs.FaultTruth.{faults_are_true}
use Rattle.plan_types.proofs.laws.faults_are_true.Goals as goal

pub returns : goal.returns
returns c = faults_are_true
