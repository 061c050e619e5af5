use Rattle.std.proofs.Common.{◌≡◌}
use Rattle.plan_app.specs.PlantGoing.{machines_of}
use Rattle.plan_app.specs.PlantScreens as spec
use Rattle.plan_app.proofs.plant_explore.any_starves.Given as goal

abbrev pub invariant-loop-machine : goal.invariant-loop-machine
invariant-loop-machine l = l.any ≡ spec.any_starves (machines_of l.plant.group) l.answers l.machine
