use Rattle.std.proofs.Common.{◌≡◌, ◌++◌, string_bytes, flat_map}
use Rattle.std.specs.List.{range_with_len}
use Rattle.plan_header.specs.Headers as spec
use Rattle.plan_header.proofs.header.push_bytes.Given as goal

abbrev pub invariant-bytes : goal.invariant-bytes
invariant-bytes l =
    string_bytes l.text ≡ string_bytes l.initial.text ++ flat_map (spec.byte_word l.bytes) (range_with_len 0 l.at)
