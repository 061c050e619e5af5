use Rattle.std.proofs.Common.{◌≡◌, ◌∙◌, Ok, ap, subst, sym}
use Rattle.plan_app.specs.PlantRuns.{AreStartsOf}
use Rattle.plan_app.specs.PlantStarts.{listed, plant_start}
use Rattle.plan_app.proofs.PlantStarting.{openings_of_plans}
use Rattle.plan_app.proofs.serve_plant.together_script.Goals as goal

pub together_from-requires-clause-openings : goal.together_from-requires-clause-openings
together_from-requires-clause-openings g c κs within =
    let plant = c.args.plant.now in
    let is : plant_start plant c.args.script.now ≡ Ok c.in-Ok-Ok.openings.items =
    sym c.in-Ok-Ok.ensures ∙ ap listed c.in-Ok-Ok.field-0-is in
    subst (AreStartsOf plant.plans.items) (sym c.as_slice.ensures.value) (openings_of_plans plant c.args.script.now c.in-Ok-Ok.openings.items is)
