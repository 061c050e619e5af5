use Rattle.plan_words.proofs.Motors.{permissions_last}
use Rattle.plan_words.proofs.laws.permissions_last_between_words.Goals as goal

pub returns : goal.returns
returns c = permissions_last
