use Rattle.std.proofs.Common.{◌≡◌, ◌++◌, string_bytes, flat_map}
use Rattle.std.specs.List.{range_with_len}
use Rattle.plan_header.specs.Turns as spec
use Rattle.plan_header.proofs.lists.push_names.Given as goal

abbrev pub invariant-names : goal.invariant-names
invariant-names l =
    string_bytes l.text ≡ string_bytes l.initial.text ++ flat_map (spec.name_item l.names) (range_with_len 0 l.number)
