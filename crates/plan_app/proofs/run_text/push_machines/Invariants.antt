use Rattle.std.proofs.Common.{◌≡◌, ◌++◌, string_bytes, flat_map}
use Rattle.std.specs.List.{range_with_len}
use Rattle.plan_app.specs.RunTexts as spec
use Rattle.plan_app.proofs.run_text.push_machines.Given as goal

abbrev pub invariant-machines : goal.invariant-machines
invariant-machines l =
    string_bytes l.text
    ≡ string_bytes l.initial.text
    ++ flat_map (spec.machine_lines l.named l.run.history.items l.run.stops.items) (range_with_len 0 l.machine)
