use Rattle.plan_app.specs.Reports as spec
use Rattle.plan_header.proofs.lemmas.Lines.{one_more}
use Rattle.plan_app.proofs.report.push_places.Goals as goal

pub places-preserved : goal.places-preserved
places-preserved c = one_more (spec.place_line c.args.named.now) _ _ _ c.places.place c.places.invariant c.in_ok-push_place.ensures
