use Rattle.cell_config.proofs.lemmas.LimitLaws.{letter_limits, text_limits}
use Rattle.cell_config.proofs.laws.limits_come_first.Goals as goal

pub returns-clause-bytes : goal.returns-clause-bytes
returns-clause-bytes c = text_limits

pub returns-clause-letters : goal.returns-clause-letters
returns-clause-letters c = letter_limits
