use Rattle.cell_table_press.specs.PressProgram.{number_at}
use Rattle.cell_resume.proofs.PressNumbers.{direction_back, leads_back, step_back}
use Rattle.cell_resume.proofs.press.number.Goals as goal

pub returns-clause-step : goal.returns-clause-step
returns-clause-step c =
    rw c.number.ensures.number (rw c.bit_of.ensures.bit (step_back c.args.progress.step c.args.progress.direction))

pub returns-clause-direction : goal.returns-clause-direction
returns-clause-direction c =
    rw c.number.ensures.number (rw c.bit_of.ensures.bit (direction_back (number_at c.args.progress.step) c.args.progress.direction))

pub returns-clause-in_step : goal.returns-clause-in_step
returns-clause-in_step c = λ z e. rw c.number.ensures.number (rw c.bit_of.ensures.bit (leads_back c.args.progress z e))
