use Rattle.std.proofs.Common.{◌≡◌, ◌++◌, string_bytes, flat_map}
use Rattle.std.specs.List.{range_with_len}
use Rattle.plan_header.specs.Headers as spec
use Rattle.plan_header.proofs.header.push_place_bits.Given as goal

abbrev pub invariant-places : goal.invariant-places
invariant-places l =
    string_bytes l.text ≡ string_bytes l.initial.text ++ flat_map (spec.place_bit l.named) (range_with_len 0 l.place)
