use Rattle.std.proofs.Common.{sym, subst}
use Rattle.plan_app.specs.PlantGoing.{machines_of}
use Rattle.plan_app.specs.PlantScreens.{IsPart}
use Rattle.plan_app.proofs.PlantScreening.{plant_told}
use Rattle.plan_app.proofs.plant_apart.told_of.Goals as goal

pub returns : goal.returns
returns c =
    let plant = c.args.plant.now in
    let ours = machines_of plant.group in
    subst (IsPart c.args.most ours plant.plans.now plant.programs.now.programs plant.openings.now) (sym c.told_by.ensures)
    (plant_told c.args.most ours plant.plans.now plant.programs.now.programs plant.openings.now c.in_ok-screen.screen
    c.in_ok-screen.ensures)
