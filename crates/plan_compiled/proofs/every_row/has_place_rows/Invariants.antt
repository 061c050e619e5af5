use Rattle.plan_compiled.specs.Complete.{HasPlaceRows}
use Rattle.plan_compiled.proofs.every_row.has_place_rows.Given as goal

abbrev pub invariant-loop-place : goal.invariant-loop-place
invariant-loop-place l = HasPlaceRows l.plan l.rows l.starts l.machine l.place
