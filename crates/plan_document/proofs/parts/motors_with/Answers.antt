use Rattle.std.proofs.Common.{◌∙◌, ap, map, take_all}
use Rattle.plan_document.specs.OnWord.{motor_with}
use Rattle.plan_document.specs.Texts.{motor_texts}
use Rattle.plan_document.proofs.Parted.{changed_more}
use Rattle.plan_document.proofs.parts.motors_with.Goals as goal

pub motors-preserved : goal.motors-preserved
motors-preserved c =
    changed_more motor_texts (motor_with c.args.zones.now c.args.places.now) motor_texts c.args.rows.now c.motors.motor c.index-rows-motor.result c.motors.made.items c.push.new.self.items c.in_ok-row.row
    c.motors-test.true c.index-rows-motor.is c.in_ok-row.ensures c.in_ok-push.ensures.items c.motors.invariant

pub returns : goal.returns
returns c = c.motors.invariant ∙ ap (λ rows. map (motor_with c.args.zones.now c.args.places.now) (map motor_texts rows)) (take_all c.motors.motor c.args.rows.now c.motors-test.false)
