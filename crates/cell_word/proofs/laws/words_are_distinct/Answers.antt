use Rattle.cell_word.proofs.lemmas.RoundTrip.{one_state}
use Rattle.cell_word.proofs.laws.words_are_distinct.Goals as goal

pub returns : goal.returns
returns c = one_state
