use Rattle.cell_resume.proofs.Names.{ap, ◌∙◌, slice_get}
use Rattle.cell_belts_crane.proofs.lemmas.StepNumbers.{crane_found}
use Rattle.cell_resume.specs.CraneKeeps.{progress_at, steps}
use Rattle.cell_resume.proofs.CraneTeam.{leads_back}
use Rattle.cell_resume.proofs.crane.number.Goals as goal

pub returns-clause-step : goal.returns-clause-step
returns-clause-step c = ap (slice_get steps) c.number.ensures ∙ crane_found c.args.progress.step

pub returns-clause-in_step : goal.returns-clause-in_step
returns-clause-in_step c = λ z e. ap progress_at c.number.ensures ∙ leads_back c.args.progress z e
