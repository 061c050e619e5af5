use Rattle.plan_words.proofs.Stops.{stopped_words_bar}
use Rattle.plan_words.proofs.laws.stopped_words_bar.Goals as goal

pub returns : goal.returns
returns c = stopped_words_bar
