use Rattle.plan_words.proofs.Motors.{words_keep_laws}
use Rattle.plan_words.proofs.laws.words_keep_laws.Goals as goal

pub returns : goal.returns
returns c = words_keep_laws
