use Rattle.plan_header.proofs.lemmas.Lines.{one_more}
use Rattle.plan_picture.specs.Pictures as spec
use Rattle.plan_picture.proofs.picture.push_motors.Goals as goal

pub motors-preserved : goal.motors-preserved
motors-preserved c =
    one_more (spec.motor_part c.args.shown.now) _ _ _ c.motors.motor c.motors.invariant c.in_ok-push_motor.ensures
