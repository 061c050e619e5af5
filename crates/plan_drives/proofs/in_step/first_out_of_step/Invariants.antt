use Rattle.std.proofs.Common.{ℕ, ◌<◌, get_or, [], map}
use Rattle.plan_drives.specs.InStep.{IsInStep}
use Rattle.plan_drives.proofs.in_step.first_out_of_step.Given as goal

abbrev pub invariant-loop-machine : goal.invariant-loop-machine
invariant-loop-machine l =
    (m : ℕ) → m < l.machine → IsInStep l.plan l.state m (get_or (map (λ program. program.items) l.programs) m []) (get_or l.lines m 0)
