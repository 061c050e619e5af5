use Rattle.std.proofs.Common.{◌≡◌, ◌-◌, ◌++◌, ◌∷◌, [], length, map}
use Rattle.std.specs.List.{range_with_len}
use Rattle.plan_types.specs.Table.{watch}
use Rattle.word_interlock.specs.Rule.{new_view}
use Rattle.plan_app.specs.Runs.{AreJobsFor}
use Rattle.plan_app.proofs.run.jobs_of.Given as goal

abbrev pub invariant-loop-machine : goal.invariant-loop-machine
invariant-loop-machine l = record {
  table : l.passes.table ≡ l.interlock.table;
  left : l.passes.actors ≡ map (new_view l.interlock.rules l.interlock.opening)
      (range_with_len l.machine (l.plan.named.plan.machines - l.machine) ++ watch ∷ []);
  many : length l.jobs.items ≡ l.machine;
  each : AreJobsFor l.plan l.interlock l.jobs.items;
}
