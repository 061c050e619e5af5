use Rattle.cell_config.proofs.SectionRows.{sections_are_met}
use Rattle.cell_config.proofs.laws.sections_are_met.Goals as goal

pub returns : goal.returns
returns c = sections_are_met
