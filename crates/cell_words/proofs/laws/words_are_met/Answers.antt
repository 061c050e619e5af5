use Rattle.cell_words.proofs.WordRows.{flags_are_met, modes_are_met, words_are_met}
use Rattle.cell_words.proofs.laws.words_are_met.Goals as goal

pub returns-clause-words : goal.returns-clause-words
returns-clause-words c = words_are_met

pub returns-clause-modes : goal.returns-clause-modes
returns-clause-modes c = modes_are_met

pub returns-clause-flags : goal.returns-clause-flags
returns-clause-flags c = flags_are_met
