use Rattle.plan_header.proofs.lemmas.Lines.{one_more}
use Rattle.plan_picture.specs.Pictures as spec
use Rattle.plan_picture.proofs.hazards.push_hazards.Goals as goal

pub hazards-preserved : goal.hazards-preserved
hazards-preserved c =
    one_more (spec.hazard_part c.args.shown.now c.args.found.now) _ _ _ c.hazards.hazard c.hazards.invariant c.in_ok-push_hazard.ensures
