use Rattle.std.proofs.Common.{◌≡◌, ◌++◌, string_bytes, flat_map}
use Rattle.std.specs.List.{range_with_len}
use Rattle.plan_header.specs.Modules as spec
use Rattle.plan_header.proofs.python.push_each.Given as goal

abbrev pub invariant-numbers : goal.invariant-numbers
invariant-numbers l =
    string_bytes l.text ≡ string_bytes l.initial.text ++ flat_map (spec.name_item l.names) (range_with_len 0 l.number)
