use Rattle.std.proofs.Common.{◌≡◌, ◌++◌, map}
use Rattle.std.specs.List.{range_with_len}
use Rattle.plan_picture.specs.Scenes.{machine_with}
use Rattle.plan_picture.proofs.shown.push_machines.Given as goal

abbrev pub invariant-motors : goal.invariant-motors
invariant-motors l =
    l.owners.items ≡ l.initial.owners.items ++ map (machine_with l.motors.motors.items) (range_with_len 0 l.motor)
