use Rattle.plan_header.proofs.lemmas.Lines.{one_more}
use Rattle.plan_picture.specs.Pictures as spec
use Rattle.plan_picture.proofs.zones.push_ends.Goals as goal

pub places-preserved : goal.places-preserved
places-preserved c =
    one_more (spec.end_part c.args.shown.now c.args.zone) _ _ _ c.places.place c.places.invariant c.in_ok-push_end.ensures
