use Rattle.plan_picture.specs.Pictures as spec
use Rattle.plan_picture.specs.Scenes as at
use Rattle.plan_picture.proofs.lemmas.Parts.{two_parts}
use Rattle.plan_picture.proofs.picture.push_begin.Goals as goal

pub returns : goal.returns
returns c =
    two_parts c.push_words_style.result _ _ _ (spec.begin_by (at.width c.args.shown.now) (at.height c.args.shown.now)) (spec.words_style c.args.shown.now)
    (rw (c.width.ensures, c.height.ensures) at c.in_ok-push_begin_by.ensures) c.push_words_style.ensures
