use Rattle.std.proofs.Common.{sym, subst, below_more, IsTrue}
use Rattle.plan_rules.specs.State.{zone_at}
use Rattle.plan_motors.specs.Motor.{need_of, meets}
use Rattle.plan_motors.proofs.motor.Motor.is_permitted.Goals as goal

pub loop-zone-preserved : goal.loop-zone-preserved
loop-zone-preserved c =
    let m = c.args.self.now in
    let s = c.args.state.now in
    let z = c.loop-zone.zone in
    let at = subst (λ v. IsTrue (meets m.machine c.zone_need.result v)) c.zone.ensures (sym c.if-not-meets.ensures) in
    let here = subst (λ n. IsTrue (meets m.machine n (zone_at s z))) c.zone_need.ensures at in
    below_more (λ x. IsTrue (meets m.machine (need_of m x) (zone_at s x))) z c.loop-zone.invariant here
