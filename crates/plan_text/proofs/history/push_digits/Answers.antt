use Rattle.plan_text.specs.Histories.{digit_of}
use Rattle.plan_text.proofs.Growing.{one_more}
use Rattle.plan_text.proofs.history.push_digits.Goals as goal

pub places-preserved : goal.places-preserved
places-preserved c = one_more (digit_of c.args.start.now) _ _ _ c.places.place c.places.invariant c.in_ok-push_digit.ensures
