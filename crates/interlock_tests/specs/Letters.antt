-- What a letter between callers tells.
use Rattle.std.specs.Prelude.{◌≡◌, ℕ, List, [], ◌∷◌, ◌++◌}
use Rattle.cell_types.specs.declared.answer.Event.{Event}
use Rattle.cell_rules.specs.History.{after}
use Rattle.cell_interlock.specs.Views.{ReceiptView}

-- the event is in the history
pub record HasEvent (history : List Event) (e : Event) : Type 0 where
  pub before : List Event
  pub later : List Event
  pub is : history ≡ before ++ e ∷ later

-- the event stands before the last one of the history
pub record ComesLater (e last : Event) (history : List Event) : Type 0 where
  pub point : List Event
  pub ends : history ≡ point ++ last ∷ []
  pub first : HasEvent point e

-- a letter with a stamp, which is the one of the state after what the receipt tells
pub record StampedView : Type 0 where
  pub receipt : ReceiptView
  pub stamp : ℕ

abbrev pub HasItsStamp : ReceiptView → ℕ → Type 0
HasItsStamp r stamp = stamp ≡ (after r.opening r.seen).stamp
