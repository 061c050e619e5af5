use Rattle.std.proofs.Common.{subst}
use Rattle.plan_app.specs.PlantGoing.{everyone}
use Rattle.plan_app.specs.PlantScreens.{IsPlantScreen, IsUnfinished}
use Rattle.plan_app.proofs.plant_apart.all_of.Goals as goal

pub returns-in_ok-large_words-in-Unfinished : goal.returns-in_ok-large_words-in-Unfinished
returns-in_ok-large_words-in-Unfinished c = λ groups.
    let plans = c.args.plant.now.plans.now in
    let ps = c.args.plant.now.programs.now.programs in
    let openings = c.args.plant.now.openings.now in
    let is : IsUnfinished c.args.most plans ps openings c.in-Unfinished.extent =
    subst (IsPlantScreen c.args.most everyone plans ps openings) c.in-Unfinished.is c.in_ok-text.ensures in
    (c.in-Unfinished.extent, is, c.in_ok-large_words-in-Unfinished.ensures)
