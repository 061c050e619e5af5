use Rattle.std.proofs.Common.{ℕ, ◌≡◌, ◌<◌, false}
use Rattle.plan_types.specs.Table.{joins}
use Rattle.plan_compiled.proofs.plain.is_plain.Given as goal

abbrev pub invariant-loop-zone : goal.invariant-loop-zone
invariant-loop-zone l = (z : ℕ) → z < l.zone → joins l.plan z ≡ false
