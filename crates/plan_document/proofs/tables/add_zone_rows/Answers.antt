use Rattle.std.proofs.Common.{arith}
use Rattle.plan_document.specs.Saying.{IsZoneOf}
use Rattle.plan_document.proofs.Growing.{zip_more}
use Rattle.plan_document.proofs.tables.add_zone_rows.Goals as goal

pub loop-i-preserved : goal.loop-i-preserved
loop-i-preserved c =
    zip_more (IsZoneOf c.args.machines.now c.args.places.now) c.args.zones.now c.loop-i.i c.index-zones-i.result c.loop-i.rows.items c.push.new.self.items c.in_ok-row.row (omega arith) c.index-zones-i.is c.loop-i.invariant c.in_ok-row.ensures c.in_ok-push.ensures.items
