use Rattle.plan_header.specs.Turns as spec
use Rattle.plan_header.proofs.lemmas.Lines.{one_more}
use Rattle.plan_header.proofs.turns.push_sensors.Goals as goal

pub sensors-preserved : goal.sensors-preserved
sensors-preserved c =
    one_more (spec.sensor_line c.args.named.now c.args.sensors.now c.args.machine) _ _ _ c.sensors.sensor c.sensors.invariant
    c.in_ok-push_sensor.ensures
