use Rattle.std.proofs.Common.{◌≡◌, ℕ, IfOk, Some, subst}
use Rattle.std.specs.Prelude.{slice_get}
use Rattle.plan_explorer.specs.Plants.{first_situation}
use Rattle.plan_liveness.specs.declared.answer.Liveness.{Liveness}
use Rattle.plan_liveness.specs.PlantAnswers.{IsPlantLiveness}
use Rattle.plan_app.proofs.plant_explore.answers_of.Goals as goal

pub returns-clause-each : goal.returns-clause-each
returns-clause-each c =
    let plant = c.args.plant.now in
    subst
    (λ ts. IfOk c.explore_plant_machines.result (λ answers. (m : ℕ) (answer : Liveness)
    → slice_get answers.items m ≡ Some answer
    → IsPlantLiveness ts plant.programs.now.programs (first_situation plant.openings.now) m answer))
    c.requires.tables c.explore_plant_machines.ensures.each
