use Rattle.plan_interlock.proofs.EachHistory as histories
use Rattle.plan_interlock.proofs.laws.words_stay_lawful.Goals as goal

pub returns : goal.returns
returns c = histories.words_stay_lawful
