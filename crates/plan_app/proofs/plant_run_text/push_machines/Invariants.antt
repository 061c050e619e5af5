use Rattle.std.proofs.Common.{◌≡◌, ◌++◌, string_bytes, flat_map}
use Rattle.std.specs.List.{range_with_len}
use Rattle.plan_app.specs.PlantRunTexts as spec
use Rattle.plan_app.proofs.plant_run_text.push_machines.Given as goal

abbrev pub invariant-machines : goal.invariant-machines
invariant-machines l =
    string_bytes l.text
    ≡ string_bytes l.initial.text ++ flat_map (spec.machine_lines l.plans l.first l.events l.stops) (range_with_len 0 l.machine)
