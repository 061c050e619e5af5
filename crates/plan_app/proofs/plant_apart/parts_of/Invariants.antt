use Rattle.std.proofs.Common.{string_bytes}
use Rattle.plan_app.specs.Apart.{TellsParts}
use Rattle.plan_app.specs.PlantScreens.{told_of}
use Rattle.plan_app.proofs.plant_apart.parts_of.Given as goal

abbrev pub invariant-machines : goal.invariant-machines
invariant-machines l =
    TellsParts (told_of l.plant.plans.now l.plant.programs.now.programs l.plant.openings.now) l.groups l.machine l.well
    (string_bytes l.text)
