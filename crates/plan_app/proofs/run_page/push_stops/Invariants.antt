use Rattle.std.proofs.Common.{◌≡◌, ◌++◌, string_bytes, flat_map}
use Rattle.std.specs.List.{range_with_len}
use Rattle.plan_app.specs.RunPages as spec
use Rattle.plan_app.proofs.run_page.push_stops.Given as goal

abbrev pub invariant-machines : goal.invariant-machines
invariant-machines l =
    string_bytes l.note
    ≡ string_bytes l.initial.note ++ flat_map (spec.stop_note_of l.named l.stops) (range_with_len 0 l.machine)
