use Rattle.std.proofs.Common.{◌≡◌, ◌++◌, string_bytes, flat_map}
use Rattle.std.specs.List.{range_with_len}
use Rattle.plan_header.specs.Modules as spec
use Rattle.plan_header.proofs.python.push_each_motor.Given as goal

abbrev pub invariant-motors : goal.invariant-motors
invariant-motors l =
    string_bytes l.text ≡ string_bytes l.initial.text ++ flat_map (spec.motor_item l.named l.names l.motors) (range_with_len 0 l.motor)
