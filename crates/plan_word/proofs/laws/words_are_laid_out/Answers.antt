use Rattle.plan_word.proofs.lemmas.LaidOut.{laid_out}
use Rattle.plan_word.proofs.laws.words_are_laid_out.Goals as goal

pub returns : goal.returns
returns c = laid_out
