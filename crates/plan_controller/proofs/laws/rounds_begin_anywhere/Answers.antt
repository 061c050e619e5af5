use Rattle.plan_controller.proofs.lemmas.Leading.{begins_anywhere}
use Rattle.plan_controller.proofs.laws.rounds_begin_anywhere.Goals as goal

pub returns : goal.returns
returns c = begins_anywhere
