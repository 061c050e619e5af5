use Rattle.std.proofs.Common.{◌≡◌}
use Rattle.plan_drives.specs.Facts as facts
use Rattle.plan_drives.proofs.facts.facts_at.Given as goal

abbrev pub invariant-loop-before : goal.invariant-loop-before
invariant-loop-before l = l.known ≡ facts.facts_at l.plan l.machine l.program l.before
