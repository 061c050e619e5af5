use Rattle.std.proofs.lemmas.List.Elements.{All-push, All-same}
use Rattle.plan_workers.specs.PlantJobs.{IsPlantReady}
use Rattle.plan_tests.proofs.plant_at_work.jobs_of.Goals as goal

pub passes-preserved : goal.passes-preserved
passes-preserved c =
    All-same (IsPlantReady c.args.interlock.now) c.push.new.self.items _ c.in_ok-push.ensures.items (All-push (IsPlantReady c.args.interlock.now) c.passes.jobs.items c.in-Some-job_of.job c.passes.invariant c.in-Some-job_of.ensures.ready)
