use Rattle.plan_words.proofs.Motors.{permitted_by_words}
use Rattle.plan_words.proofs.laws.permitted_by_words.Goals as goal

pub returns : goal.returns
returns c = permitted_by_words
