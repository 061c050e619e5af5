use Rattle.plan_workers.proofs.PlantClosing.{words_accepted, words_explained}
use Rattle.plan_workers.proofs.laws.ended_words_are_explained.Goals as goal

pub returns-clause-explained : goal.returns-clause-explained
returns-clause-explained c = words_explained

pub returns-clause-accepted : goal.returns-clause-accepted
returns-clause-accepted c = words_accepted
