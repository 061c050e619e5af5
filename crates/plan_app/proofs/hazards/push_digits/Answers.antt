use Rattle.plan_app.specs.Hazards as spec
use Rattle.plan_header.proofs.lemmas.Lines.{one_more}
use Rattle.plan_app.proofs.hazards.push_digits.Goals as goal

pub places-preserved : goal.places-preserved
places-preserved c = one_more (spec.digit_of c.args.opening.now) _ _ _ c.places.place c.places.invariant c.in_ok-push_digit.ensures
