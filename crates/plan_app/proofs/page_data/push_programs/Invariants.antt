use Rattle.std.proofs.Common.{◌≡◌, ◌++◌, string_bytes, flat_map}
use Rattle.std.specs.List.{range_with_len}
use Rattle.plan_app.specs.PageData as spec
use Rattle.plan_app.proofs.page_data.push_programs.Given as goal

abbrev pub invariant-machines : goal.invariant-machines
invariant-machines l =
    string_bytes l.text
    ≡ string_bytes l.initial.text
    ++ flat_map (spec.next_item (spec.program_item l.plan.named l.plan.motors.names l.plan.sensors.items (spec.programs_of l.plan))) (range_with_len 0 l.machine)
