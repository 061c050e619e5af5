use Rattle.plan_app.proofs.RunLawProofs.{runs_replayed, writings_replayed}
use Rattle.plan_app.proofs.laws.runs_are_replayed.Goals as goal

pub returns-clause-runs : goal.returns-clause-runs
returns-clause-runs c = runs_replayed c.histories_are_answered.ensures.answered c.histories_are_answered.ensures.starts

pub returns-clause-writings : goal.returns-clause-writings
returns-clause-writings c = writings_replayed c.histories_are_answered.ensures.answered c.histories_are_answered.ensures.starts
