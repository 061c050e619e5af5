use Rattle.plan_header.specs.Turns as spec
use Rattle.plan_header.proofs.lemmas.Lines.{one_more}
use Rattle.plan_header.proofs.turns.push_all_sensors.Goals as goal

pub machines-preserved : goal.machines-preserved
machines-preserved c =
    one_more (spec.sensor_lines c.args.named.now c.args.sensors.now) _ _ _ c.machines.machine c.machines.invariant
    c.in_ok-push_sensors.ensures
