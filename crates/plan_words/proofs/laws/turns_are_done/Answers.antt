use Rattle.plan_words.proofs.CutKeepers.{turns_are_done}
use Rattle.plan_words.proofs.laws.turns_are_done.Goals as goal

pub returns : goal.returns
returns g = turns_are_done
