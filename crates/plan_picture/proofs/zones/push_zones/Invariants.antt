use Rattle.std.proofs.Common.{◌≡◌, ◌++◌, flat_map, string_bytes}
use Rattle.std.specs.List.{range_with_len}
use Rattle.plan_picture.specs.Pictures as spec
use Rattle.plan_picture.proofs.zones.push_zones.Given as goal

abbrev pub invariant-zones : goal.invariant-zones
invariant-zones l =
    string_bytes l.text ≡ string_bytes l.initial.text ++ flat_map (spec.zone_part l.shown) (range_with_len 0 l.zone)
