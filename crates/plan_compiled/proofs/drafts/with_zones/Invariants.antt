use Rattle.std.proofs.Common.{◌≤◌}
use Rattle.plan_compiled.proofs.drafts.with_zones.Given as goal

abbrev pub invariant-loop-zone : goal.invariant-loop-zone
invariant-loop-zone l = l.splits ≤ l.zone
