use Rattle.plan_types.specs.Table.{zone_count}
use Rattle.plan_compiled.specs.Complete.{LeavesRows}
use Rattle.plan_compiled.proofs.covering.after_places.Given as goal

abbrev pub invariant-loop-place : goal.invariant-loop-place
invariant-loop-place l = LeavesRows l.plan l.asked l.rows l.span l.sets (zone_count l.plan) l.place
