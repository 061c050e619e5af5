use Rattle.plan_header.proofs.lemmas.Lines.{one_more}
use Rattle.plan_picture.specs.Pictures as spec
use Rattle.plan_picture.proofs.picture.push_places.Goals as goal

pub places-preserved : goal.places-preserved
places-preserved c =
    one_more (spec.place_part c.args.shown.now) _ _ _ c.places.place c.places.invariant c.in_ok-push_place.ensures
