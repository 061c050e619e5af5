use Rattle.cell_notes.proofs.LiteralNotes.{notes-met}
use Rattle.cell_notes.proofs.laws.notes_by_answers.Goals as goal

pub returns : goal.returns
returns c = notes-met
