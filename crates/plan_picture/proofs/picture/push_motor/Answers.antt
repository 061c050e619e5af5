use Rattle.plan_picture.proofs.picture.push_motor.Goals as goal

pub returns : goal.returns
returns c = rw (c.motor_thing.ensures.thing, c.name-name.ensures, c.motor_names.ensures) at c.push_thing.ensures
