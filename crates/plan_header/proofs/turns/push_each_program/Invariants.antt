use Rattle.std.proofs.Common.{◌≡◌, ◌++◌, string_bytes, flat_map, map}
use Rattle.std.specs.List.{range_with_len}
use Rattle.plan_header.specs.Turns as spec
use Rattle.plan_header.proofs.turns.push_each_program.Given as goal

abbrev pub invariant-machines : goal.invariant-machines
invariant-machines l =
    string_bytes l.text ≡ string_bytes l.initial.text ++ flat_map (spec.own_program l.named l.sensors (map (λ own. own.items) l.steps)) (range_with_len 0 l.machine)
