use Rattle.plan_words.proofs.Grouping.{is_laid_out}
use Rattle.plan_words.proofs.laws.groups_are_words.Goals as goal

pub returns : goal.returns
returns c = is_laid_out
