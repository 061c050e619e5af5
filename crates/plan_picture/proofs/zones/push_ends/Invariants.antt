use Rattle.std.proofs.Common.{◌≡◌, ◌++◌, flat_map, string_bytes}
use Rattle.std.specs.List.{range_with_len}
use Rattle.plan_picture.specs.Pictures as spec
use Rattle.plan_picture.proofs.zones.push_ends.Given as goal

abbrev pub invariant-places : goal.invariant-places
invariant-places l =
    string_bytes l.text ≡ string_bytes l.initial.text ++ flat_map (spec.end_part l.shown l.zone) (range_with_len 0 l.place)
