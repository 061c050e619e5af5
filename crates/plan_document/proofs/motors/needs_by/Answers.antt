use Rattle.std.proofs.Common.{◌∙◌, ◌<◌, ℕ, None, get_or, length, arith}
use Rattle.std.proofs.lemmas.List.{length-set}
use Rattle.std.proofs.lemmas.List.Edits.{fill_by_more}
use Rattle.plan_motors.specs.declared.motor.ZoneNeed.{ZoneNeed}
use Rattle.plan_motors.specs.Motor.{no_need}
use Rattle.plan_document.specs.Motors.{need}
use Rattle.plan_document.proofs.motors.needs_by.Goals as goal

pub loop-zone-preserved : goal.loop-zone-preserved
loop-zone-preserved c =
    let f : ℕ → ZoneNeed = λ k. need (get_or c.args.holds k None) (get_or c.args.stands k None) in
    let needs = c.loop-zone.needs in
    let i = c.loop-zone.zone in
    let ten = c.loop-zone.invariant.0 in
    let inside : i < length needs = omega (arith, ten, c.loop-zone-test.true) in
    rw c.need_at.ensures (length-set needs i (f i) ∙ ten, fill_by_more f needs i no_need inside c.loop-zone.invariant.1)

pub returns : goal.returns
returns c = λ zone small. c.loop-zone.invariant.1 zone (omega (arith, small, c.loop-zone-test.false))
