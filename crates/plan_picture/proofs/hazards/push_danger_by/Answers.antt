use Rattle.plan_picture.specs.Pictures as spec
use Rattle.plan_header.proofs.lemmas.Lines.{three_parts}
use Rattle.plan_picture.proofs.hazards.push_danger_by.Goals as goal

pub returns : goal.returns
returns c =
    three_parts c.push_danger_label-2.result _ _ _ _ (spec.danger_line c.args.shown.now c.args.hazard c.args.motors) (spec.danger_label c.args.shown.now c.args.hazard c.args.motors.first) (spec.danger_label c.args.shown.now c.args.hazard c.args.motors.second)
    c.in_ok-push_danger_line.ensures c.in_ok-push_danger_label.ensures c.push_danger_label-2.ensures
