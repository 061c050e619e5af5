use Rattle.cell_config.proofs.ConfigRows.{configs_are_met}
use Rattle.cell_config.proofs.PartRows.{parts_are_met}
use Rattle.cell_config.proofs.laws.configs_are_met.Goals as goal

pub returns-clause-configs : goal.returns-clause-configs
returns-clause-configs c = configs_are_met

pub returns-clause-parts : goal.returns-clause-parts
returns-clause-parts c = parts_are_met
