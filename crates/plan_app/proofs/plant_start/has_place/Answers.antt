use Rattle.std.proofs.Common.{◌∙◌}
use Rattle.plan_app.proofs.PlantStarting.{is_place}
use Rattle.plan_app.proofs.plant_start.has_place.Goals as goal

pub returns : goal.returns
returns c = c.is_some.ensures ∙ is_place c.args.words.now c.args.place c.place.result c.requires c.place.ensures.there c.place.ensures.none
