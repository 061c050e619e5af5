-- What entries in their order lead to.
use Rattle.std.specs.Prelude.{◌≡◌, List, Option, map}
use Rattle.cell_rules.specs.Types.{Machine, Event, Entry}
use Rattle.cell_rules.specs.Names.{IsAudited, ModelState, after}
use Rattle.cell_report.specs.declared.ordered.Noted.{Noted}
use Rattle.cell_report.specs.Order.{event_of, AreInOrder}
use Rattle.cell_report.specs.AuditFaults.{AllFit}

-- each entry fits at its point; their events are kept, and this is the state after them
pub record Retraced (holds : List Event → Type 0) (start : ModelState) (ordered : List Noted)
    (end : ModelState) : Type 0 where
  pub fit : AllFit start start ordered
  pub kept : holds (map event_of ordered)
  pub reached : end ≡ after start (map event_of ordered)

-- a legal history explains the journals, its events are in the order, and they are kept
pub record Retraces (holds : List Event → Type 0) (start : ModelState) (journals : Machine → List Entry)
    (end : Option ModelState) : Type 0 where
  pub history : List Event
  pub audited : IsAudited start journals end history
  pub order : AreInOrder journals history
  pub kept : holds history
