use Rattle.plan_words.proofs.Poses.{answered_alike}
use Rattle.plan_words.proofs.laws.calls_are_answered_alike.Goals as goal

pub returns : goal.returns
returns c = answered_alike
