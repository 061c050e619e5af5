use Rattle.plan_words.proofs.OneTable.{steps_tell}
use Rattle.plan_words.proofs.laws.steps_tell_one_history.Goals as goal

pub returns : goal.returns
returns c = steps_tell
