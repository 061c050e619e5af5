use Rattle.std.proofs.Common.{slice_get}
use Rattle.plan_picture.specs.Pictures as spec
use Rattle.plan_header.proofs.lemmas.Lines.{three_parts}
use Rattle.plan_picture.proofs.hazards.push_hazard.Goals as goal

pub returns : goal.returns
returns c =
    three_parts c.push_danger.result _ _ _ _ (spec.hazard_title c.args.shown.now c.args.hazard) (spec.found_if c.args.shown.now c.args.hazard (slice_get c.args.found.now c.args.hazard)) (spec.danger_part c.args.shown.now c.args.hazard)
    c.in_ok-push_hazard_title.ensures c.in_ok-push_found_if.ensures c.push_danger.ensures
