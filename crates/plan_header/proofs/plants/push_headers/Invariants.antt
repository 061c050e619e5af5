use Rattle.std.proofs.Common.{◌≡◌, ◌++◌, string_bytes, flat_map}
use Rattle.std.specs.List.{range_with_len}
use Rattle.plan_header.specs.PlantHeaders as spec
use Rattle.plan_header.proofs.plants.push_headers.Given as goal

abbrev pub invariant-words : goal.invariant-words
invariant-words l =
    string_bytes l.text ≡ string_bytes l.initial.text ++ flat_map (spec.header_on l.plans) (range_with_len 0 l.word)
