use Rattle.std.proofs.Common.{◌≡◌, map, take, string_bytes}
use Rattle.plan_document.specs.Names.{AreDistinct, sensor_identifiers}
use Rattle.plan_document.proofs.sensors.check_for_c.Given as goal

abbrev pub invariant-loop-machine : goal.invariant-loop-machine
invariant-loop-machine l = record {
  names : map string_bytes l.taken.items ≡ sensor_identifiers (take l.machine l.machines);
  distinct : AreDistinct (map string_bytes l.taken.items);
}
