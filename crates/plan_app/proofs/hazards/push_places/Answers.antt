use Rattle.plan_app.specs.Hazards as spec
use Rattle.plan_header.proofs.lemmas.Lines.{one_more}
use Rattle.plan_app.proofs.hazards.push_places.Goals as goal

pub places-preserved : goal.places-preserved
places-preserved c = one_more (spec.place_part c.args.named.now c.args.state.now) _ _ _ c.places.place c.places.invariant c.in_ok-push_place_part.ensures
