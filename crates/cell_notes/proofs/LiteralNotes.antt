-- What is kept of a turn meets the rows.
use Rattle.std.proofs.Common.{ℕ, append-nil, refl}
use Rattle.cell_rules.specs.Types.{Call}
use Rattle.cell_notes.specs.Notes.{Notes}
use Rattle.cell_notes.specs.NoteRows.{AnyCounts, NotesAreMet}
use Rattle.cell_notes.proofs.LiteralValues.{value-rows}

any-counts : (n : Notes) (call : Call) (stamp : ℕ) → AnyCounts n call stamp
any-counts n call stamp = record {
  nothing = (refl, refl, refl, refl, refl);
  done = (refl, refl, refl, refl, refl);
  shown = λ owner flag posture. (refl, refl, refl, refl, refl);
  refused = λ r. (refl, refl, refl, refl, refl);
  busy = λ lost. (refl, refl, refl, refl, refl);
  out_of_memory = (refl, refl, refl, refl, refl);
  settled_is_noted = λ a. refl;
  busy_is_not_noted = λ lost. append-nil n.journal;
  nothing_is_not_noted = append-nil n.journal;
}

pub notes-met : NotesAreMet
notes-met = record {
  counts = λ call. record { at_first = refl; nothing = refl; done = refl; shown = λ owner flag posture. refl; refused = λ r. refl; busy = λ lost. refl; out_of_memory = refl };
  any_counts = any-counts;
  events = λ m call stamp. record {
    nothing_done = refl;
    done = refl;
    shown_is_not_done = λ owner flag posture. refl;
    refused_is_not_done = λ r. refl;
    busy_is_not_done = λ lost. refl;
    out_of_memory_is_not_done = refl;
    nothing_settled = refl;
    settled = λ a. refl;
    busy_is_not_settled = λ lost. refl;
    out_of_memory_is_not_settled = refl;
  };
  words = record { fine = refl; worn = refl; sensor = refl; refused = refl; memory = refl; gate_limit = refl };
  values = value-rows;
}
