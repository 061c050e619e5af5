use Rattle.cell_interlock.proofs.lemmas.Journals.{line_journal}
use Rattle.cell_interlock.proofs.pass_line.PassLine.into_parts.Goals as goal

pub returns-clause-journal : goal.returns-clause-journal
returns-clause-journal c = line_journal _ _ c.self.inside.kept
