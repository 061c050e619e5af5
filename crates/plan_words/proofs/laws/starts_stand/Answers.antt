use Rattle.plan_words.proofs.CutStarts.{starts_stand}
use Rattle.plan_words.proofs.laws.starts_stand.Goals as goal

pub returns : goal.returns
returns g = starts_stand
