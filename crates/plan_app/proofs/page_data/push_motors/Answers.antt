use Rattle.plan_app.specs.PageData as spec
use Rattle.plan_header.proofs.lemmas.Lines.{one_more}
use Rattle.plan_app.proofs.page_data.push_motors.Goals as goal

pub motors-preserved : goal.motors-preserved
motors-preserved c =
    one_more (spec.next_item (spec.motor_item c.args.named.now c.args.names.now c.args.motors.now)) _ _ _
    c.motors.motor c.motors.invariant c.in_ok-push_motor.ensures
