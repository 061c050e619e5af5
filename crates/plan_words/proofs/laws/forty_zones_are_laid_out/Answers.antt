use Rattle.plan_words.proofs.CutForty.{forty}
use Rattle.plan_words.proofs.laws.forty_zones_are_laid_out.Goals as goal

pub returns : goal.returns
returns g = forty
