use Rattle.word_interlock.proofs.lemmas.Running.{calls_follow_receipts}
use Rattle.cell_interlock.specs.declared.rules.CellRules.{CellRules}
use Rattle.cell_interlock.specs.Book.{cell_book}
use Rattle.cell_interlock.proofs.laws.calls_follow_receipts.Goals as goal

pub returns : goal.returns
returns c = calls_follow_receipts cell_book CellRules
