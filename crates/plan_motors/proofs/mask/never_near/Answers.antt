use Rattle.std.proofs.Common.{sym, ap, ap₂, ◌∙◌, ◌&&◌}
use Rattle.plan_types.specs.declared.shape.ZoneShape.{ZoneShape}
use Rattle.plan_types.specs.Table.{zone_shape}
use Rattle.plan_word.specs.Layout.{Counts, shape_at}
use Rattle.plan_word.proofs.lemmas.Shapes.{shape_is}
use Rattle.plan_motors.specs.declared.motor.ZoneNeed.{ZoneNeed}
use Rattle.plan_motors.specs.Motor.{need_of}
use Rattle.plan_motors.specs.Mask.{is_never}
use Rattle.plan_motors.proofs.mask.never_near.Goals as goal

pub returns-then-same_space : goal.returns-then-same_space
returns-then-same_space c =
    let t = c.args.plan.now in
    let m = c.args.motor.now in
    let y = c.args.other in
    let shape = c.shape.ensures ∙ ap (λ (k : Counts). shape_at k y) c.requires ∙ shape_is t y in
    c.is_never.ensures ∙ ap₂ (λ (s : ZoneShape) (n : ZoneNeed). is_never s n.posture) shape c.zone_need.ensures
    ∙ sym (ap (λ b. b && is_never (zone_shape t y) (need_of m y).posture) (sym c.same_space.ensures ∙ c.if-same_space.true))
