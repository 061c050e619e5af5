use Rattle.std.proofs.Common.{arith, subst}
use Rattle.plan_motors.specs.OfPlan.{hazard_at, no_hazard}
use Rattle.plan_app.specs.Hazards.{IsFindingOf}
use Rattle.plan_app.proofs.Verdicts.{zip_more}
use Rattle.plan_app.proofs.hazards.findings_of.Goals as goal

pub loop-i-preserved : goal.loop-i-preserved
loop-i-preserved c =
    zip_more (IsFindingOf c.args.most c.args.plan.now c.args.start) c.args.plan.now.motors.hazards.items c.loop-i.i no_hazard c.loop-i.findings.items c.push.new.self.items c.in_ok-finding.finding (omega arith) c.loop-i.invariant
    (subst (λ xs. IsFindingOf c.args.most c.args.plan.now c.args.start (hazard_at xs c.loop-i.i) c.in_ok-finding.finding) c.deref.ensures.value
    (subst (λ h. IsFindingOf c.args.most c.args.plan.now c.args.start h c.in_ok-finding.finding) c.hazard_at-hazard.ensures c.in_ok-finding.ensures))
    c.in_ok-push.ensures.items
