use Rattle.cell_resume.proofs.GoesOn.{machines-go-on}
use Rattle.cell_resume.proofs.laws.machines_go_on.Goals as goal

pub returns : goal.returns
returns c = machines-go-on
