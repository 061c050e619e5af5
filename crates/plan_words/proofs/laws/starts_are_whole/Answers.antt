use Rattle.plan_words.proofs.Starts.{starts_are_whole}
use Rattle.plan_words.proofs.laws.starts_are_whole.Goals as goal

pub returns : goal.returns
returns c = starts_are_whole
