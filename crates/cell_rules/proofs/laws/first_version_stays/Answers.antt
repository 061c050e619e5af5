use Rattle.cell_rules.proofs.lemmas.FirstVersion.{first_version}
use Rattle.cell_rules.proofs.laws.first_version_stays.Goals as goal

pub returns : goal.returns
returns c = first_version
