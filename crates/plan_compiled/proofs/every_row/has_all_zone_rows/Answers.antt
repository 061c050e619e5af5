use Rattle.std.proofs.Common.{below_more, refl}
use Rattle.plan_compiled.specs.Complete.{HasZoneRows}
use Rattle.plan_compiled.proofs.every_row.has_all_zone_rows.Goals as goal

pub loop-zone-preserved : goal.loop-zone-preserved
loop-zone-preserved c =
    below_more (HasZoneRows c.args.plan.now c.args.rows.now c.args.starts.now c.args.machine) c.loop-zone.zone c.loop-zone.invariant (c.if-not-has_zone_rows.ensures refl)
