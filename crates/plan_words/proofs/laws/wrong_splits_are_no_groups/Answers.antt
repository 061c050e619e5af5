use Rattle.plan_words.proofs.Rows.{wrong_splits}
use Rattle.plan_words.proofs.laws.wrong_splits_are_no_groups.Goals as goal

pub returns : goal.returns
returns c = wrong_splits
