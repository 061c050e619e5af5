use Rattle.plan_word.proofs.Plain.{plain_words_stay}
use Rattle.plan_word.proofs.laws.plain_words_stay.Goals as goal

pub returns : goal.returns
returns c = plain_words_stay
