use Rattle.std.proofs.Common.{ℕ, ◌<◌}
use Rattle.plan_types.specs.Table.{zone_count}
use Rattle.plan_compiled.specs.Complete.{AreNotTwo}
use Rattle.plan_compiled.proofs.covering.opens_one.Given as goal

abbrev pub invariant-loop-zone : goal.invariant-loop-zone
invariant-loop-zone l = (y : ℕ) → y < l.zone → (z : ℕ) → z < zone_count l.plan → AreNotTwo l.plan l.pose y z
