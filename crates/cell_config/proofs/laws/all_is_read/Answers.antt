use Rattle.cell_config.proofs.Names.{refl}
use Rattle.cell_config.proofs.AllRead.{numbers_are_within, schedules_are_read}
use Rattle.cell_config.proofs.laws.all_is_read.Goals as goal

pub returns-clause-schedules : goal.returns-clause-schedules
returns-clause-schedules c = schedules_are_read

pub returns-clause-keys : goal.returns-clause-keys
returns-clause-keys c = λ key value others. record { top = refl; inner = refl }

pub returns-clause-numbers : goal.returns-clause-numbers
returns-clause-numbers c = numbers_are_within
