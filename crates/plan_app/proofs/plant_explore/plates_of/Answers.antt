use Rattle.std.proofs.Common.{IfOk, subst}
use Rattle.plan_explorer.specs.Plants.{first_situation}
use Rattle.plan_liveness.specs.PlantPlates.{IsPlateProgress}
use Rattle.plan_app.proofs.plant_explore.plates_of.Goals as goal

pub returns-then-some_move_plates : goal.returns-then-some_move_plates
returns-then-some_move_plates c =
    let plant = c.args.plant.now in
    subst (λ ts. IfOk c.explore_plant_plates.result (IsPlateProgress ts plant.programs.now.programs (first_situation plant.openings.now)))
    c.requires.tables c.explore_plant_plates.ensures
