-- The trace of entries in their order: their stamps, their events, and the state after them.
use Rattle.std.specs.Prelude.{◌≡◌, ℕ, ◌≤◌, List, None, false, MatchOption}
use Rattle.cell_types.specs.declared.answer.Event.{Event}
use Rattle.cell_rules.specs.Names.{ModelState, next}
use Rattle.cell_report.specs.declared.ordered.Noted.{Noted}
use Rattle.cell_report.specs.declared.traces.Trace.{Trace}
use Rattle.cell_report.specs.Order.{InOrder, is_done_noted, stamp_of, done_stamps, greatest}
use Rattle.cell_report.specs.AuditFaults.{HasStamps, Fits, IsMisfit}
use Rattle.cell_report.specs.Retraced.{Retraced}

-- holds: what the sink has
pub record IsTrace (holds : List Event → Type 0) (start : ModelState) (least : ℕ) (ordered : List Noted)
    (trace : Trace) : Type 0 where
  pub stamps : trace.stamps.items ≡ done_stamps ordered
  pub top : trace.top ≡ greatest least ordered
  pub fit : MatchOption trace.misfit (Retraced holds start ordered trace.state) (IsMisfit start ordered)

-- of all entries, in the order
pub record IsTraceOf (holds : List Event → Type 0) (start : ModelState) (least : ℕ) (all : List Noted)
    (trace : Trace) : Type 0 where
  pub ordered : List Noted
  pub order : InOrder all ordered
  pub is : IsTrace holds start least ordered trace

-- and each stamp after the start's, up to the top, belongs to exactly one Done entry
pub record IsStampedTrace (holds : List Event → Type 0) (start : ModelState) (least : ℕ) (all : List Noted)
    (trace : Trace) : Type 0 where
  pub ordered : List Noted
  pub stamps : HasStamps start.stamp (greatest least all) all ordered
  pub is : IsTrace holds start least ordered trace

-- after an entry was taken: it fits again, and changes nothing
pub record Repeats (start : ModelState) (x : Noted) (trace : Trace) : Type 0 where
  pub fitted : trace.misfit ≡ None
  pub fits : Fits start trace.state x
  pub same : next trace.state x.machine x.entry.call ≡ trace.state
  pub other : is_done_noted x ≡ false
  pub within : stamp_of x ≤ trace.top
