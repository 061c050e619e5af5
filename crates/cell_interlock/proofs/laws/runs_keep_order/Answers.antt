use Rattle.word_interlock.proofs.lemmas.Running.{runs_keep_order}
use Rattle.cell_interlock.specs.Book.{cell_book}
use Rattle.cell_interlock.specs.BookKept.{cell_is_rule_book}
use Rattle.cell_interlock.proofs.laws.runs_keep_order.Goals as goal

pub returns : goal.returns
returns c = runs_keep_order cell_book cell_is_rule_book
