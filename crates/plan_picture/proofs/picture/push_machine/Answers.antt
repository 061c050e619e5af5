use Rattle.plan_picture.specs.Pictures as spec
use Rattle.plan_header.proofs.lemmas.Lines.{three_parts}
use Rattle.plan_picture.proofs.picture.push_machine.Goals as goal

pub returns : goal.returns
returns c =
    three_parts c.push_machine_title.result _ _ _ _ (spec.lane_box c.args.shown.now c.args.machine) (spec.machine_box c.args.shown.now c.args.machine) (spec.machine_title c.args.shown.now c.args.machine)
    c.in_ok-push_lane.ensures c.in_ok-push_machine_box.ensures c.push_machine_title.ensures
