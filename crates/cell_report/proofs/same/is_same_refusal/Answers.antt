use Rattle.cell_report.proofs.Names.{arith, common_steps}
use Rattle.cell_report.proofs.same.is_same_refusal.Goals as goal

pub returns : goal.returns
returns c = grind (arith, common_steps)
