use Rattle.plan_words.proofs.Motors.{one_word_keeps_apart}
use Rattle.plan_words.proofs.laws.one_word_keeps_motors_apart.Goals as goal

pub returns : goal.returns
returns c = one_word_keeps_apart
