use Rattle.word_interlock.proofs.lemmas.One.{history_is_seen, moments_are_shown}
use Rattle.word_interlock.proofs.lemmas.Receipts.{receipts_come_first}
use Rattle.cell_interlock.specs.Book.{cell_book}
use Rattle.cell_interlock.specs.BookKept.{cell_is_rule_book}
use Rattle.cell_interlock.proofs.laws.history_is_one.Goals as goal

pub returns : goal.returns
returns c = record {
  seen = λ rules. history_is_seen cell_book cell_is_rule_book rules (Unit {0});
  shown = λ rules. moments_are_shown cell_book cell_is_rule_book rules (Unit {0});
  receipts = λ rules. receipts_come_first cell_book cell_is_rule_book rules (Unit {0});
}
