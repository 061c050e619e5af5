use Rattle.std.proofs.Common.{◌≡◌, ◌++◌, string_bytes, flat_map}
use Rattle.std.specs.List.{range_with_len}
use Rattle.plan_app.specs.Hazards as spec
use Rattle.plan_app.proofs.hazards.push_zones.Given as goal

abbrev pub invariant-zones : goal.invariant-zones
invariant-zones l =
    string_bytes l.text ≡ string_bytes l.initial.text ++ flat_map (spec.zone_part l.named l.state) (range_with_len 0 l.zone)
