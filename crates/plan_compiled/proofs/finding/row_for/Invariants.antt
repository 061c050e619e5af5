use Rattle.std.proofs.Common.{ℕ, ◌<◌, ◌≡◌, ◌+◌, false}
use Rattle.plan_compiled.specs.Rows.{matches}
use Rattle.plan_compiled.specs.Complete.{row_at}
use Rattle.plan_compiled.proofs.finding.row_for.Given as goal

abbrev pub invariant-loop-tried : goal.invariant-loop-tried
invariant-loop-tried l = (k : ℕ) → k < l.tried → matches (row_at l.rows (l.first + k)).part l.word ≡ false
