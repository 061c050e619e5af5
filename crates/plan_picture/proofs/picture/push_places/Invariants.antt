use Rattle.std.proofs.Common.{◌≡◌, ◌++◌, flat_map, string_bytes}
use Rattle.std.specs.List.{range_with_len}
use Rattle.plan_picture.specs.Pictures as spec
use Rattle.plan_picture.proofs.picture.push_places.Given as goal

abbrev pub invariant-places : goal.invariant-places
invariant-places l =
    string_bytes l.text ≡ string_bytes l.initial.text ++ flat_map (spec.place_part l.shown) (range_with_len 0 l.place)
