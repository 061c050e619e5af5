use Rattle.std.proofs.Common.{◌≡◌, length}
use Rattle.plan_explorer.specs.PlantPrograms.{routed_of}
use Rattle.plan_app.specs.WholePrograms.{AreFirst}
use Rattle.plan_app.proofs.plant_steps.plant_program.Given as goal

abbrev pub invariant-loop-count : goal.invariant-loop-count
invariant-loop-count l = record {
  first : AreFirst l.plant.plans.items (routed_of l.plant.programs.programs l.machine) l.machine l.done.items;
  count : length l.done.items ≡ l.count;
}
