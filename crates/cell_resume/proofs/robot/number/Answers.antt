use Rattle.cell_resume.proofs.Names.{ap, ◌∙◌, slice_get}
use Rattle.cell_robot.proofs.lemmas.StepNumbers.{robot_found}
use Rattle.cell_resume.specs.RobotKeeps.{progress_at, steps}
use Rattle.cell_resume.proofs.RobotNumbers.{leads_back}
use Rattle.cell_resume.proofs.robot.number.Goals as goal

pub returns-clause-step : goal.returns-clause-step
returns-clause-step c = ap (slice_get steps) c.number.ensures ∙ robot_found c.args.progress.step

pub returns-clause-in_step : goal.returns-clause-in_step
returns-clause-in_step c = λ z e. ap (λ n. progress_at n z) c.number.ensures ∙ leads_back c.args.progress z e
