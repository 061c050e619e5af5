use Rattle.std.proofs.Common.{◌∙◌}
use Rattle.cell_interlock.proofs.lemmas.Journals.{line_journal, asks-table, line_kept}
use Rattle.cell_interlock.proofs.pass_line.PassLineLine.ask.Goals as goal

pub ask_and_note-answered-requires-clause-noted : goal.ask_and_note-answered-requires-clause-noted
ask_and_note-answered-requires-clause-noted c = line_journal _ _ c.self.inside.kept

pub invariant_of-self-inside : goal.invariant_of-self-inside
invariant_of-self-inside c =
    let asked = c.ask_and_note-answered.ensures in
    (asks-table _ _ _ _ _ asked.asks ∙ c.self.inside.own, (line_kept _ _ _ _ _ _ _ c.self.inside.kept asked.asks asked.noted, tt))
