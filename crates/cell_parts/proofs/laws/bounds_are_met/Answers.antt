use Rattle.cell_parts.proofs.Bounds.{bounds_are_met}
use Rattle.cell_parts.proofs.laws.bounds_are_met.Goals as goal

pub returns : goal.returns
returns c = bounds_are_met
