use Rattle.cell_resume.proofs.Names.{ap, ◌∙◌, slice_get}
use Rattle.cell_belts_crane.proofs.lemmas.StepNumbers.{deposit_found}
use Rattle.cell_resume.specs.DepositKeeps.{progress_at, steps}
use Rattle.cell_resume.proofs.DepositNumbers.{leads_back}
use Rattle.cell_resume.proofs.deposit.number.Goals as goal

pub returns-clause-step : goal.returns-clause-step
returns-clause-step c = ap (slice_get steps) c.number.ensures ∙ deposit_found c.args.progress.step

pub returns-clause-in_step : goal.returns-clause-in_step
returns-clause-in_step c = λ z e. ap (λ n. progress_at n z) c.number.ensures ∙ leads_back c.args.progress z e
