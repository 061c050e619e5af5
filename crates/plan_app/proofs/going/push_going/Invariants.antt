use Rattle.std.proofs.Common.{◌≡◌, ◌++◌, string_bytes, flat_map}
use Rattle.std.specs.List.{range_with_len}
use Rattle.plan_app.specs.Going as spec
use Rattle.plan_app.proofs.going.push_going.Given as goal

abbrev pub invariant-machines : goal.invariant-machines
invariant-machines l =
    string_bytes l.text ≡ string_bytes l.initial.text
    ++ flat_map (spec.machine_text l.plan.named.now l.plan.programs.now l.opening l.answers) (range_with_len 0 l.machine)
