use Rattle.std.proofs.Common.{◌≡◌, ◌++◌, string_bytes, flat_map}
use Rattle.std.specs.List.{range_with_len}
use Rattle.plan_app.specs.Reports as spec
use Rattle.plan_app.proofs.report.push_zones.Given as goal

abbrev pub invariant-zones : goal.invariant-zones
invariant-zones l =
    string_bytes l.text ≡ string_bytes l.initial.text ++ flat_map (spec.zone_lines l.named) (range_with_len 0 l.zone)
