use Rattle.std.proofs.Common.{sym, subst, below_more, IsTrue, false, unwrap_or}
use Rattle.plan_types.specs.declared.posture.Posture.TheVariants.{Moving}
use Rattle.plan_motors.specs.Poses.{matters, leads_on, posture_after}
use Rattle.plan_rules.specs.Sound.{implies}
use Rattle.plan_motors.proofs.poses.moving_leads.Goals as goal

pub loop-zone-preserved : goal.loop-zone-preserved
loop-zone-preserved c =
    let t = c.args.plan.now in
    let a = c.args.first.now in
    let b = c.args.second.now in
    let z = c.loop-zone.zone in
    let any = c.args.any.now in
    let m = c.args.host in
    let well = subst (λ w. IsTrue (implies (matters t m any z) w)) c.leads_on-well.ensures (sym c.if-not-suits.ensures) in
    let after = subst (λ q. IsTrue (implies (matters t m any z) (leads_on t a b false z q))) c.unwrap_or-after.ensures well in
    let here = subst (λ o. IsTrue (implies (matters t m any z) (leads_on t a b false z (unwrap_or o Moving)))) c.posture_of.ensures after in
    below_more (λ k. IsTrue (implies (matters t m any k) (leads_on t a b false k (posture_after t c.args.pose k Moving)))) z c.loop-zone.invariant here
