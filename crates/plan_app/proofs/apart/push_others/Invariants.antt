use Rattle.std.proofs.Common.{◌≡◌, ◌++◌, string_bytes, flat_map}
use Rattle.std.specs.List.{range_with_len}
use Rattle.plan_app.specs.Apart as spec
use Rattle.plan_app.proofs.apart.push_others.Given as goal

abbrev pub invariant-machines : goal.invariant-machines
invariant-machines l =
    string_bytes l.text ≡ string_bytes l.initial.text
    ++ flat_map (spec.next_name l.named l.groups l.first) (range_with_len 0 l.machine)
