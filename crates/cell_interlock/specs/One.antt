-- The rule's history is what one of the callers has seen.
use Rattle.word_interlock.specs.One.{HistoryIsSeen, MomentsAreShown}
use Rattle.word_interlock.specs.Receipts.{ReceiptsComeFirst}
use Rattle.cell_interlock.specs.declared.rules.CellRules.{CellRules}
use Rattle.cell_interlock.specs.Book.{cell_book}

-- At every time who made the history's last event has seen it whole; likewise the moments. What receipts tell comes
-- before what later loads add to both.
pub record HistoryIsOne : Type 0 where
  pub seen : (rules : CellRules) → HistoryIsSeen cell_book rules (Unit {0})
  pub shown : (rules : CellRules) → MomentsAreShown cell_book rules (Unit {0})
  pub receipts : (rules : CellRules) → ReceiptsComeFirst cell_book rules (Unit {0})
