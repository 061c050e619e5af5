use Rattle.plan_app.specs.PageData as spec
use Rattle.plan_header.proofs.lemmas.Lines.{one_more}
use Rattle.plan_app.proofs.page_data.push_places.Goals as goal

pub places-preserved : goal.places-preserved
places-preserved c =
    one_more (spec.next_item (spec.place_item c.args.named.now)) _ _ _
    c.places.place c.places.invariant c.in_ok-push_place.ensures
