use Rattle.std.proofs.Common.{◌≡◌, ◌++◌, string_bytes, flat_map}
use Rattle.std.specs.List.{range_with_len}
use Rattle.plan_header.specs.Turns as spec
use Rattle.plan_header.proofs.turns.push_all_sensors.Given as goal

abbrev pub invariant-machines : goal.invariant-machines
invariant-machines l =
    string_bytes l.text ≡ string_bytes l.initial.text ++ flat_map (spec.sensor_lines l.named l.sensors) (range_with_len 0 l.machine)
