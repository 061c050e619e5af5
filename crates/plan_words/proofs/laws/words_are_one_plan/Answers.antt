use Rattle.plan_words.proofs.Runs.{words_are_one}
use Rattle.plan_words.proofs.laws.words_are_one_plan.Goals as goal

pub returns : goal.returns
returns c = words_are_one
