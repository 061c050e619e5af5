use Rattle.plan_words.proofs.CutLeast.{groups_when_cut}
use Rattle.plan_words.proofs.laws.groups_when_cut.Goals as goal

pub returns : goal.returns
returns g = groups_when_cut
