use Rattle.std.proofs.Common.{◌+◌}
use Rattle.plan_picture.specs.Elements.{circle, label}
use Rattle.plan_picture.proofs.lemmas.Parts.{two_parts}
use Rattle.plan_picture.proofs.picture.push_thing_at.Goals as goal

pub returns : goal.returns
returns c =
    two_parts c.push_label.result _ _ _ (circle c.args.class.now 38 c.args.y 5) (label c.args.class.now 52 (c.args.y + 4) 13 210 c.args.name.now)
    c.in_ok-push_circle.ensures c.push_label.ensures
