use Rattle.std.proofs.Common.{ℕ, ◌<◌, ◌+◌}
use Rattle.plan_compiled.specs.Complete.{IsRowOf}
use Rattle.plan_compiled.proofs.finding.own_rows.Given as goal

abbrev pub invariant-loop-tried : goal.invariant-loop-tried
invariant-loop-tried l = (k : ℕ) → k < l.tried → IsRowOf l.rows l.machine l.call (l.first + k)
