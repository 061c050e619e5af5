use Rattle.plan_words.proofs.CutMotors.{permitted_by_cut}
use Rattle.plan_words.proofs.laws.permitted_by_cut.Goals as goal

pub returns : goal.returns
returns g = permitted_by_cut
