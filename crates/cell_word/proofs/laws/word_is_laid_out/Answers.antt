use Rattle.cell_word.proofs.lemmas.RoundTrip.{laid_out}
use Rattle.cell_word.proofs.laws.word_is_laid_out.Goals as goal

pub returns : goal.returns
returns c = laid_out
