use Rattle.std.proofs.Common.{◌≡◌, ◌++◌, string_bytes, flat_map}
use Rattle.std.specs.List.{range_with_len}
use Rattle.plan_app.specs.Drives as spec
use Rattle.plan_app.proofs.drives.push_undriven.Given as goal

abbrev pub invariant-machines : goal.invariant-machines
invariant-machines l =
    string_bytes l.text
    ≡ string_bytes l.initial.text ++ flat_map (spec.drive_line l.named l.motors l.drives) (range_with_len 0 l.machine)
