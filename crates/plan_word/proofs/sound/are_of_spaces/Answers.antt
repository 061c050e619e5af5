use Rattle.std.proofs.Common.{below_more, refl}
use Rattle.plan_rules.specs.Sound.{IsOfSpace}
use Rattle.plan_word.proofs.sound.are_of_spaces.Goals as goal

pub loop-zone-preserved : goal.loop-zone-preserved
loop-zone-preserved c =
    let t = c.args.plan.now in
    let s = c.args.state.now in
    below_more (λ x. IsOfSpace t s x) c.loop-zone.zone c.loop-zone.invariant (c.if-not-is_of_space.ensures.0 refl)
