use Rattle.plan_app.proofs.JobLawProofs.{plant_runs_by_programs, runs_by_programs}
use Rattle.plan_app.proofs.laws.machines_run_their_programs.Goals as goal

pub returns-clause-runs : goal.returns-clause-runs
returns-clause-runs c = runs_by_programs

pub returns-clause-plant_runs : goal.returns-clause-plant_runs
returns-clause-plant_runs c = plant_runs_by_programs
