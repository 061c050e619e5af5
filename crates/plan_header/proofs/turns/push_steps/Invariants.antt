use Rattle.std.proofs.Common.{◌≡◌, ◌++◌, string_bytes, flat_map, take}
use Rattle.plan_header.specs.Turns as spec
use Rattle.plan_header.proofs.turns.push_steps.Given as goal

abbrev pub invariant-steps : goal.invariant-steps
invariant-steps l =
    string_bytes l.text ≡ string_bytes l.initial.text ++ flat_map (spec.step_row l.named l.sensors l.machine) (take l.step-index l.steps)
