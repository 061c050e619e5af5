use Rattle.std.proofs.Common.{◌∙◌, ap}
use Rattle.plan_picture.specs.Pictures.{plant_picture_text}
use Rattle.plan_app.proofs.Inputs.{ok_more}
use Rattle.plan_app.proofs.plant_picture.drawing_by.Goals as goal

pub returns : goal.returns
returns c =
    ok_more c.plant_picture_of.result _ _ c.plant_picture_of.ensures
    (λ text told. record {
      keepers = c.args.keepers.now;
      are = c.requires.keepers;
      told = told ∙ ap (plant_picture_text c.args.plans.now) (c.as_slice.ensures.value ∙ c.in_ok-found.ensures);
    })
