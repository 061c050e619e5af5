-- The end of an interlock: its passes have come back, and leave one state.
use Rattle.std.specs.Prelude.{◌≡◌, List, Some}
use Rattle.cell_types.specs.declared.machine.Machine.{Machine}
use Rattle.cell_types.specs.declared.machine.Machine.TheVariants.{Feed, Table, Robot, Press, Deposit, Crane, Watch}
use Rattle.cell_types.specs.declared.answer.Event.{Event}
use Rattle.cell_types.specs.declared.journal.Entry.{Entry}
use Rattle.cell_rules.specs.ModelState.{ModelState}
use Rattle.cell_rules.specs.History.{after}
use Rattle.cell_rules.specs.Laws.{LawfulThroughout}
use Rattle.cell_rules.specs.Journal.{noted}
use Rattle.cell_rules.specs.Audited.{IsAudited}
use Rattle.cell_rules.specs.Seen.{Waits}
use Rattle.cell_interlock.specs.Views.{PassView, InterlockView}
use Rattle.cell_interlock.specs.declared.pass.Passes.{Passes}

-- the pass in a machine's field
abbrev pub pass_in : Passes → Machine → PassView
pass_in p Feed = p.feed
pass_in p Table = p.table
pass_in p Robot = p.robot
pass_in p Press = p.press
pass_in p Deposit = p.deposit
pass_in p Crane = p.crane
pass_in p Watch = p.watch

-- a pass is this machine's, and was made with this interlock
pub record IsPassOf (i : InterlockView) (m : Machine) (p : PassView) : Type 0 where
  pub table : p.table ≡ i.table
  pub machine : p.machine ≡ m

-- each field has its machine's pass
pub record ArePassesOf (i : InterlockView) (p : Passes) : Type 0 where
  pub feed : IsPassOf i Feed p.feed
  pub table : IsPassOf i Table p.table
  pub robot : IsPassOf i Robot p.robot
  pub press : IsPassOf i Press p.press
  pub deposit : IsPassOf i Deposit p.deposit
  pub crane : IsPassOf i Crane p.crane
  pub watch : IsPassOf i Watch p.watch

-- a pass has seen a prefix of the history, with all its own events
pub record HasPart (opening : ModelState) (history : List Event) (m : Machine) (p : PassView) : Type 0 where
  pub opened : p.opening ≡ opening
  pub seen : Waits m p.seen history

-- what each machine notes of what its pass has seen
abbrev pub journals_by : ModelState → Passes → Machine → List Entry
journals_by opening p m = noted opening (pass_in p m).seen m

-- the state is the one after a history that is lawful throughout; each pass has seen a prefix of it, with all its own
-- events; so an audit accepts the journals of the seven passes, with this end
pub record IsEnd (opening : ModelState) (p : Passes) (s : ModelState) : Type 0 where
  pub history : List Event
  pub lawful : LawfulThroughout opening history
  pub reached : s ≡ after opening history
  pub passes : (m : Machine) → HasPart opening history m (pass_in p m)
  pub audited : IsAudited opening (journals_by opening p) (Some s) history
