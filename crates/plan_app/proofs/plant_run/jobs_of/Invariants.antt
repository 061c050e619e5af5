use Rattle.std.proofs.Common.{◌≡◌, length}
use Rattle.plan_app.specs.PlantRuns.{ArePlantJobsFor}
use Rattle.plan_app.proofs.plant_run.jobs_of.Given as goal

abbrev pub invariant-passes : goal.invariant-passes
invariant-passes l = record {
  many : length l.jobs.items ≡ length l.yielded;
  each : ArePlantJobsFor l.plant l.interlock l.jobs.items;
}
