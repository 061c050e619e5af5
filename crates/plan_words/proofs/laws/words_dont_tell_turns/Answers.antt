use Rattle.plan_words.proofs.CutRows.{words_dont_tell}
use Rattle.plan_words.proofs.laws.words_dont_tell_turns.Goals as goal

pub returns : goal.returns
returns g = words_dont_tell
