use Rattle.plan_app.specs.Hazards as spec
use Rattle.plan_header.proofs.lemmas.Lines.{one_more}
use Rattle.plan_app.proofs.hazards.push_hazards.Goals as goal

pub hazards-preserved : goal.hazards-preserved
hazards-preserved c =
    one_more
    (spec.hazard_line c.args.plan.now.named c.args.plan.now.programs c.args.plan.now.motors.hazard_names c.args.start c.args.findings.now)
    _ _ _ c.hazards.hazard c.hazards.invariant c.in_ok-push_hazard.ensures
