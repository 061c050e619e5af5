use Rattle.std.proofs.Common.{codes}
use Rattle.plan_picture.specs.Elements.{box}
use Rattle.plan_picture.specs.Pictures as spec
use Rattle.plan_picture.specs.declared.picture.TheConstants.{STYLE}
use Rattle.plan_header.proofs.lemmas.Lines.{three_parts}
use Rattle.plan_picture.proofs.picture.push_begin_by.Goals as goal

pub returns : goal.returns
returns c =
    three_parts c.push_box.result _ _ _ _ (spec.head c.args.width c.args.height) STYLE.now (box (codes "paper") 0 0 c.args.width c.args.height)
    c.in_ok-push_head.ensures c.in_ok-push_style.ensures c.push_box.ensures
