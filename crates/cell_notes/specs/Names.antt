-- The names of this crate that other crates' definitions and proofs use, in one place.
pub use Rattle.cell_notes.specs.Asks.{TurnCall, came_back, done_in, entries_in, is_busy_reply, is_done_reply}
pub use Rattle.cell_notes.specs.Asks.{is_read_reply, is_refused_reply, settled_by, settled_in}
pub use Rattle.cell_notes.specs.ByMachine.{at_machine, each_machine, in_order, map_machines, values_of, with_machine}
pub use Rattle.cell_notes.specs.Notes.{AreBelow, HasRoom, Notes, counts_with, no_counts, no_notes, notes_with}
