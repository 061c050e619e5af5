use Rattle.plan_workers.proofs.Closing.{explained}
use Rattle.plan_workers.proofs.laws.closed_journals_are_explained.Goals as goal

pub returns : goal.returns
returns c = explained
