use Rattle.std.proofs.Common.{below_more, subst, refl}
use Rattle.plan_rules.specs.State.{zone_at}
use Rattle.plan_rules.specs.Sound.{IsLawfulZone}
use Rattle.plan_word.proofs.sound.are_lawful_zones.Goals as goal

pub loop-zone-preserved : goal.loop-zone-preserved
loop-zone-preserved c =
    let t = c.args.plan.now in
    let s = c.args.state.now in
    let z = c.loop-zone.zone in
    let here = subst (IsLawfulZone t z) c.zone.ensures (c.if-not-is_lawful_zone.ensures.0 refl) in
    below_more (λ x. IsLawfulZone t x (zone_at s x)) z c.loop-zone.invariant here
