use Rattle.plan_compiled.specs.Complete.{HasAllZoneRows}
use Rattle.plan_compiled.proofs.every_row.has_all_zone_rows.Given as goal

abbrev pub invariant-loop-zone : goal.invariant-loop-zone
invariant-loop-zone l = HasAllZoneRows l.plan l.rows l.starts l.machine l.zone
