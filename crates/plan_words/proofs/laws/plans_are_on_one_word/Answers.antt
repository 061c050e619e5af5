use Rattle.plan_words.proofs.FirstFit.{plans_stay}
use Rattle.plan_words.proofs.laws.plans_are_on_one_word.Goals as goal

pub returns : goal.returns
returns c = plans_stay
