-- The lines of workers: what contracts say of a line, whichever type it has.
use Rattle.std.specs.Prelude.{ℕ, List, Result}
use Rattle.cell_rules.specs.Types.{Call, Event, Reply}
use Rattle.cell_rules.specs.Names.{ModelState}
use Rattle.cell_rules.specs.declared.heard.LineFault.{LineFault}
use Rattle.cell_interlock.specs.Views.{PassView}
use Rattle.cell_interlock.specs.Lines.{PassAsks}

-- the opening of its interlock, the history that it has seen, and the effect of a call
pub record Lines (L : Type 0) : Type 1 where
  pub opening : L → ModelState
  pub seen : L → List Event
  pub asks : L → Call → Result Reply LineFault → L → Type 0

-- lines by the passes of an interlock; the number is how many exchanges a call may lose
abbrev pub passes : ℕ → Lines PassView
passes tries = record { opening = λ p. p.opening; seen = λ p. p.seen; asks = PassAsks tries }
