use Rattle.plan_words.proofs.Pairs.{twelve_are_laid_out}
use Rattle.plan_words.proofs.laws.twelve_pairs_are_laid_out.Goals as goal

pub returns : goal.returns
returns c = twelve_are_laid_out
