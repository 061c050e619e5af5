use Rattle.plan_c.proofs.GoingOn.{goes_on}
use Rattle.plan_c.proofs.laws.turns_go_on.Goals as goal

pub returns : goal.returns
returns c = goes_on c.lawful_histories.ensures
