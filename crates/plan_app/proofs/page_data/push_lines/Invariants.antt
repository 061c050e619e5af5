use Rattle.std.proofs.Common.{◌≡◌, ◌++◌, string_bytes, flat_map}
use Rattle.std.specs.List.{range_with_len}
use Rattle.plan_app.specs.PageData as spec
use Rattle.plan_app.proofs.page_data.push_lines.Given as goal

abbrev pub invariant-lines : goal.invariant-lines
invariant-lines l =
    string_bytes l.text
    ≡ string_bytes l.initial.text
    ++ flat_map (spec.next_item (spec.line_item l.plan.named l.plan.motors.names l.plan.sensors.items l.machine l.steps)) (range_with_len 0 l.line)
