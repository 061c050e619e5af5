use Rattle.std.proofs.Common.{ap, ap₂, ◌∙◌}
use Rattle.plan_types.specs.declared.shape.Postures.{Postures}
use Rattle.plan_types.specs.declared.shape.ZoneShape.{ZoneShape}
use Rattle.plan_types.specs.Table.{postures_of}
use Rattle.plan_word.specs.Layout.{Counts, shape_at}
use Rattle.plan_word.proofs.lemmas.Shapes.{shape_is}
use Rattle.plan_motors.specs.declared.motor.ZoneNeed.{ZoneNeed}
use Rattle.plan_motors.specs.Motor.{need_of}
use Rattle.plan_motors.specs.Mask.{holds_in, never_in, owner_mask, posture_mask, bits_with}
use Rattle.plan_motors.proofs.mask.zone_mask.Goals as goal

pub returns-clause-mask : goal.returns-clause-mask
returns-clause-mask c =
    let t = c.args.plan.now in
    let m = c.args.motor.now in
    let z = c.args.zone in
    let s = c.shape-shape.result in
    let shape = c.shape-shape.ensures ∙ ap (λ (k : Counts). shape_at k z) c.requires ∙ shape_is t z in
    let owner = c.owner_mask-owner.ensures.mask ∙ ap₂ (owner_mask s) c.holds_in-holds.ensures c.never_in.ensures in
    let posture = c.posture_mask-posture.ensures.mask ∙ ap₂ (λ (p : Postures) (n : ZoneNeed). posture_mask p n.posture) c.postures.ensures c.zone_need.ensures in
    c.zone_bits_of.ensures.bits ∙ ap₂ (bits_with s) owner posture
    ∙ ap (λ (x : ZoneShape). bits_with x (owner_mask x (holds_in t m z) (never_in t m z)) (posture_mask (postures_of x) (need_of m z).posture)) shape
