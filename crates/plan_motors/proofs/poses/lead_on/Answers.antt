use Rattle.std.proofs.Common.{sym, subst, below_more, IsTrue}
use Rattle.plan_rules.specs.declared.state.ZoneState.{ZoneState}
use Rattle.plan_rules.specs.State.{posture_at}
use Rattle.plan_motors.specs.Poses.{matters, leads_on}
use Rattle.plan_rules.specs.Sound.{implies}
use Rattle.plan_motors.proofs.poses.lead_on.Goals as goal

pub loop-zone-preserved : goal.loop-zone-preserved
loop-zone-preserved c =
    let t = c.args.plan.now in
    let a = c.args.first.now in
    let b = c.args.second.now in
    let z = c.loop-zone.zone in
    let any = c.args.any.now in
    let m = c.args.host in
    let well = subst (λ w. IsTrue (implies (matters t m any z) w)) c.leads_on-well.ensures (sym c.if-not-suits.ensures) in
    let here = subst (λ (v : ZoneState). IsTrue (implies (matters t m any z) (leads_on t a b c.args.moving z v.posture))) c.zone-posture.ensures well in
    below_more (λ k. IsTrue (implies (matters t m any k) (leads_on t a b c.args.moving k (posture_at c.args.state.now k)))) z c.loop-zone.invariant here
