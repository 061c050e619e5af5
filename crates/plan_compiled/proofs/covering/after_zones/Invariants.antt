use Rattle.plan_compiled.specs.Complete.{LeavesRows}
use Rattle.plan_compiled.proofs.covering.after_zones.Given as goal

abbrev pub invariant-loop-zone : goal.invariant-loop-zone
invariant-loop-zone l = LeavesRows l.plan l.asked l.rows l.span l.sets l.zone 0
