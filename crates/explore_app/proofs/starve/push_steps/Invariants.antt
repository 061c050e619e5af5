use Rattle.std.proofs.Common.{◌≡◌, ◌++◌, take, string_bytes}
use Rattle.explore_app.specs.Starving.{round_lines}
use Rattle.explore_app.proofs.starve.push_steps.Given as goal

abbrev pub invariant-steps : goal.invariant-steps
invariant-steps l = string_bytes l.text ≡ string_bytes l.initial.text ++ round_lines (take l.step-index l.round)
