use Rattle.plan_rules.proofs.lemmas.Lawful.{every_history}
use Rattle.plan_rules.proofs.laws.lawful_histories.Goals as goal

pub returns : goal.returns
returns c = every_history
