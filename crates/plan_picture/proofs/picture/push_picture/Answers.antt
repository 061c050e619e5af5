use Rattle.std.proofs.Common.{◌++◌}
use Rattle.plan_header.proofs.lemmas.Lines.{three_parts}
use Rattle.plan_picture.specs.Pictures as spec
use Rattle.plan_picture.specs.Pictures.{picture_text}
use Rattle.plan_picture.proofs.lemmas.Parts.{two_parts}
use Rattle.plan_picture.proofs.picture.push_picture.Goals as goal

pub returns : goal.returns
unfolding picture_text
returns c =
    let s = c.args.shown.now in
    let columns = spec.columns_part s c.args.found.now in
    three_parts c.push_finish.result _ _ _ _ (spec.begin s) (spec.lanes_part s) (columns ++ spec.finish s)
    c.in_ok-push_begin.ensures c.in_ok-push_lanes.ensures
    (two_parts c.push_finish.result _ _ _ columns (spec.finish s) c.in_ok-push_columns.ensures c.push_finish.ensures)
