use Rattle.std.proofs.Common.{All}
use Rattle.plan_workers.specs.PlantJobs.{IsPlantReady}
use Rattle.plan_tests.proofs.plant_at_work.jobs_of.Given as goal

abbrev pub invariant-passes : goal.invariant-passes
invariant-passes l = All (IsPlantReady l.interlock) l.jobs.items
