use Rattle.std.proofs.Common.{◌≡◌, ℕ, ◌<◌, None}
use Rattle.plan_drives.specs.Facts.{facts_at}
use Rattle.plan_drives.specs.Lacking.{undriven_at}
use Rattle.plan_drives.proofs.check.first_undriven.Given as goal

abbrev pub invariant-loop-line : goal.invariant-loop-line
invariant-loop-line l = record {
  known : l.known ≡ facts_at l.plan.plan l.machine l.program l.line;
  none : (k : ℕ) → k < l.line → undriven_at l.plan l.machine l.program k ≡ None;
}
