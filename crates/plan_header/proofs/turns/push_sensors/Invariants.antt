use Rattle.std.proofs.Common.{◌≡◌, ◌++◌, string_bytes, flat_map}
use Rattle.std.specs.List.{range_with_len}
use Rattle.plan_header.specs.Turns as spec
use Rattle.plan_header.proofs.turns.push_sensors.Given as goal

abbrev pub invariant-sensors : goal.invariant-sensors
invariant-sensors l =
    string_bytes l.text ≡ string_bytes l.initial.text ++ flat_map (spec.sensor_line l.named l.sensors l.machine) (range_with_len 0 l.sensor)
