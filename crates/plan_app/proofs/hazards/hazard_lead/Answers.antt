use Rattle.plan_app.proofs.Found.{hazard_led}
use Rattle.plan_app.proofs.hazards.hazard_lead.Goals as goal

pub returns : goal.returns
returns c =
    hazard_led c.args.most c.args.plan.now c.args.start c.args.hazard c.args.verdict c.plan.result.now c.opening_by-opening.result
    c.deref.result.now c.deref-2.result.now c.motor_at-first.result c.motor_at-second.result c.lead_of.result c.plan.ensures
    c.opening_by-opening.ensures c.deref.ensures.value c.motor_at-first.ensures c.deref-2.ensures.value c.motor_at-second.ensures
    c.lead_of.ensures
