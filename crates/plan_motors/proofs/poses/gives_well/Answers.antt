use Rattle.std.proofs.Common.{sym, subst, below_more, IsTrue}
use Rattle.plan_types.specs.Table.{posture_of}
use Rattle.plan_motors.specs.Poses.{matters, given_leads_on}
use Rattle.plan_rules.specs.Sound.{implies}
use Rattle.plan_motors.proofs.poses.gives_well.Goals as goal

pub loop-zone-preserved : goal.loop-zone-preserved
loop-zone-preserved c =
    let t = c.args.plan.now in
    let a = c.args.first.now in
    let b = c.args.second.now in
    let z = c.loop-zone.zone in
    let any = c.args.any.now in
    let m = c.args.host in
    let well = subst (λ w. IsTrue (implies (matters t m any z) w)) c.given_leads_on-well.ensures (sym c.if-not-suits.ensures) in
    let here = subst (λ o. IsTrue (implies (matters t m any z) (given_leads_on t a b c.args.moving z o))) c.posture_of-given.ensures well in
    below_more (λ k. IsTrue (implies (matters t m any k) (given_leads_on t a b c.args.moving k (posture_of t c.args.pose k)))) z c.loop-zone.invariant here
