use Rattle.std.proofs.Common.{arith}
use Rattle.toml.specs.View.{table_view, view}
use Rattle.plan_document.proofs.Zoned.{sides_more}
use Rattle.plan_document.proofs.zones.add_listed.Goals as goal

pub sides-preserved : goal.sides-preserved
sides-preserved c =
    sides_more view (table_view c.args.zone.now) c.args.values.now c.sides.side c.index-values-side.result c.args.rows.now.items c.sides.rows.items c.push.new.self.items c.in_ok-row.row (omega arith) c.index-values-side.is c.sides.invariant c.in_ok-row.ensures c.in_ok-push.ensures.items
