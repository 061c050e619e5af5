use Rattle.cell_resume.proofs.DepositResumes.{deposit_resumable}
use Rattle.cell_resume.proofs.deposit.DepositProgramResumable.meets_demands.Goals as goal

pub returns : goal.returns
returns c = deposit_resumable
