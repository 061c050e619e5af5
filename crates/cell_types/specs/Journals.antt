-- The journals, by machine.
use Rattle.std.specs.Prelude.{List}
use Rattle.cell_types.specs.declared.machine.Machine.{Machine}
use Rattle.cell_types.specs.declared.machine.Machine.TheVariants.{Feed, Table, Robot, Press, Deposit, Crane, Watch}
use Rattle.cell_types.specs.declared.journal.Entry.{Entry}
use Rattle.cell_types.specs.declared.journal.Journals.{Journals}

-- the journal of each machine
abbrev pub journal_of : Journals → Machine → List Entry
journal_of journals Feed = journals.feed.items
journal_of journals Table = journals.table.items
journal_of journals Robot = journals.robot.items
journal_of journals Press = journals.press.items
journal_of journals Deposit = journals.deposit.items
journal_of journals Crane = journals.crane.items
journal_of journals Watch = journals.watch.items
