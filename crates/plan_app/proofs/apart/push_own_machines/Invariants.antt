use Rattle.std.proofs.Common.{◌≡◌, ◌++◌, string_bytes, flat_map}
use Rattle.std.specs.List.{range_with_len}
use Rattle.plan_app.specs.Apart as spec
use Rattle.plan_app.proofs.apart.push_own_machines.Given as goal

abbrev pub invariant-machines : goal.invariant-machines
invariant-machines l =
    string_bytes l.text ≡ string_bytes l.initial.text
    ++ flat_map (spec.own_text (spec.group_of l.own.groups.now l.own.first) l.plan.named.now l.plan.programs.now l.opening
    l.own.answers.now) (range_with_len 0 l.machine)
