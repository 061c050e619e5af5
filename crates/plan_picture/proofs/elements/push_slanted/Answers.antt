use Rattle.std.proofs.Common.{length}
use Rattle.plan_picture.specs.Elements as spec
use Rattle.plan_picture.proofs.lemmas.Parts.{two_parts}
use Rattle.plan_picture.proofs.elements.push_slanted.Goals as goal

pub returns : goal.returns
returns c =
    two_parts c.push_closing.result _ _ _ (spec.slope c.args.class.now c.args.spot.x c.args.spot.y (spec.fitting c.args.spot.most c.args.spot.width (length c.args.content.now))) (spec.closing c.args.content.now)
    c.in_ok-push_slope.ensures c.push_closing.ensures
