use Rattle.std.proofs.Common.{◌≡◌, take}
use Rattle.plan_document.specs.Names.{sensor_names}
use Rattle.plan_document.proofs.sensors.all_sensors_of.Given as goal

abbrev pub invariant-loop-machine : goal.invariant-loop-machine
invariant-loop-machine l = l.all.items ≡ sensor_names (take l.machine l.machines)
