use Rattle.cell_resume.proofs.FiguresHold.{figures-hold}
use Rattle.cell_resume.proofs.laws.checkpoints_by_figures.Goals as goal

pub returns : goal.returns
returns c = figures-hold
