use Rattle.plan_workers.proofs.RenewalLaws.{unworn_tells}
use Rattle.plan_workers.proofs.laws.unworn_ends_tell.Goals as goal

pub returns : goal.returns
returns c = unworn_tells c.refusals_are_true.ensures
