use Rattle.plan_app.proofs.PlantRunLawProofs.{plant_runs_replayed, plant_writings_replayed}
use Rattle.plan_app.proofs.laws.plant_runs_are_replayed.Goals as goal

pub returns-clause-runs : goal.returns-clause-runs
returns-clause-runs c = plant_runs_replayed c.histories_are_answered.ensures.answered

pub returns-clause-writings : goal.returns-clause-writings
returns-clause-writings c = plant_writings_replayed c.histories_are_answered.ensures.answered
