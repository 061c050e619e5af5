use Rattle.std.proofs.Common.{ℕ, ◌<◌}
use Rattle.plan_compiled.specs.Complete.{HasMachineRows}
use Rattle.plan_compiled.proofs.every_row.has_every_row.Given as goal

abbrev pub invariant-loop-machine : goal.invariant-loop-machine
invariant-loop-machine l = (m : ℕ) → m < l.machine → HasMachineRows l.plan l.rows l.starts m
