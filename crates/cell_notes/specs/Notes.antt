-- The content of a machine's notebook.
use Rattle.std.specs.Prelude.{ℕ, ◌+◌, ◌<◌, vec_len, vec_capacity, List, [], ◌++◌}
use Rattle.cell_types.specs.declared.journal.Entry.{Entry}
use Rattle.cell_rules.specs.ModelState.{one_if}
use Rattle.cell_notes.specs.declared.counts.Counts.{Counts}
use Rattle.cell_notes.specs.declared.notebook.Notebook.{Notebook}
use Rattle.cell_notes.specs.Asks.{TurnCall, came_back, is_done_reply, is_read_reply, is_refused_reply, is_busy_reply}
use Rattle.cell_notes.specs.Asks.{entries_in}

-- a machine's counts and its journal
pub record Notes : Type 0 where
  pub counts : Counts
  pub journal : List Entry

abbrev pub notes_of : Notebook → Notes
notes_of n = record { counts = n.counts; journal = n.journal.items }

-- before the first turn
abbrev pub no_counts : Counts
no_counts = record { turns = 0; done = 0; read = 0; refused = 0; busy = 0 }

abbrev pub no_notes : Notes
no_notes = record { counts = no_counts; journal = [] }

-- after another turn, in which this was asked
abbrev pub counts_with : Counts → TurnCall → Counts
counts_with c asked =
    record {
      turns = c.turns + 1;
      done = c.done + one_if (came_back is_done_reply asked);
      read = c.read + one_if (came_back is_read_reply asked);
      refused = c.refused + one_if (came_back is_refused_reply asked);
      busy = c.busy + one_if (came_back is_busy_reply asked);
    }

abbrev pub notes_with : Notes → TurnCall → Notes
notes_with n asked = record { counts = counts_with n.counts asked; journal = n.journal ++ entries_in asked }

-- each count is below a number
pub record AreBelow (n : ℕ) (c : Counts) : Type 0 where
  pub turns : c.turns < n
  pub done : c.done < n
  pub read : c.read < n
  pub refused : c.refused < n
  pub busy : c.busy < n

-- the greatest value of a count
abbrev pub last_count : ℕ
last_count = 18446744073709551615

-- each count can be increased by 1
abbrev pub HasRoom : Counts → Type 0
HasRoom c = AreBelow last_count c

-- the journal has room for another entry
abbrev pub HasSpare : Notebook → Type 0
HasSpare n = vec_len n.journal < vec_capacity n.journal
