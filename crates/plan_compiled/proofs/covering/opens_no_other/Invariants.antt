use Rattle.std.proofs.Common.{ℕ, ◌<◌}
use Rattle.plan_compiled.specs.Complete.{AreNotTwo}
use Rattle.plan_compiled.proofs.covering.opens_no_other.Given as goal

abbrev pub invariant-loop-other : goal.invariant-loop-other
invariant-loop-other l = (y : ℕ) → y < l.other → AreNotTwo l.plan l.pose l.zone y
