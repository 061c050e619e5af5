use Rattle.plan_picture.specs.Scenes.{machine_with}
use Rattle.plan_picture.proofs.lemmas.Ranges.{mapped_more}
use Rattle.plan_picture.proofs.shown.push_machines.Goals as goal

pub motors-preserved : goal.motors-preserved
motors-preserved c =
    mapped_more (machine_with c.args.motors.now.motors.items) _ _ _ c.motors.motor c.motors.invariant
    (rw c.machine_with.ensures at c.in_ok-push.ensures.items)
