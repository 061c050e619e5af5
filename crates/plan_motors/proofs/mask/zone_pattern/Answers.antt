use Rattle.std.proofs.Common.{◌<◌, ◌^◌, sym, ap, ap₂, ◌∙◌, subst}
use Rattle.plan_types.specs.declared.shape.Postures.{Postures}
use Rattle.plan_types.specs.declared.shape.ZoneShape.{ZoneShape}
use Rattle.plan_types.specs.Table.{owner_bits, postures_of}
use Rattle.plan_word.specs.Layout.{Counts, shape_at}
use Rattle.plan_word.proofs.lemmas.Shapes.{shape_is}
use Rattle.plan_motors.specs.declared.motor.ZoneNeed.{ZoneNeed}
use Rattle.plan_motors.specs.Motor.{need_of}
use Rattle.plan_motors.specs.Mask.{holds_in, never_in, owner_pattern, posture_pattern, bits_with}
use Rattle.plan_motors.proofs.mask.zone_pattern.Goals as goal

pub owner_pattern-owner-requires : goal.owner_pattern-owner-requires
owner_pattern-owner-requires c =
    let t = c.args.plan.now in
    let z = c.args.zone in
    let shape = c.shape-shape.ensures ∙ ap (λ (k : Counts). shape_at k z) c.requires ∙ shape_is t z in
    subst (λ (s : ZoneShape). c.owner_part-part.result < 2 ^ owner_bits s.guests) (sym shape) c.owner_part-part.ensures.fits

pub returns-clause-pattern : goal.returns-clause-pattern
returns-clause-pattern c =
    let t = c.args.plan.now in
    let m = c.args.motor.now in
    let z = c.args.zone in
    let s = c.shape-shape.result in
    let part = c.owner_part-part.result in
    let shape = c.shape-shape.ensures ∙ ap (λ (k : Counts). shape_at k z) c.requires ∙ shape_is t z in
    let owner = c.owner_pattern-owner.ensures.pattern ∙ ap₂ (owner_pattern s part) c.holds_in-holds.ensures c.never_in.ensures in
    let posture = c.posture_pattern-posture.ensures.pattern ∙ ap₂ (λ (p : Postures) (n : ZoneNeed). posture_pattern p n.posture) c.postures.ensures c.zone_need.ensures in
    c.zone_bits_of.ensures.bits ∙ ap₂ (bits_with s) owner posture
    ∙ ap₂ (λ (x : ZoneShape) n. bits_with x (owner_pattern x n (holds_in t m z) (never_in t m z)) (posture_pattern (postures_of x) (need_of m z).posture)) shape c.owner_part-part.ensures.part
