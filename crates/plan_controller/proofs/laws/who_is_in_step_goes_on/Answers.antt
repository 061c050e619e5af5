use Rattle.plan_controller.proofs.lemmas.Leading.{in_step_goes_on}
use Rattle.plan_controller.proofs.laws.who_is_in_step_goes_on.Goals as goal

pub returns : goal.returns
returns c = in_step_goes_on
