use Rattle.std.proofs.Common.{arith}
use Rattle.toml.specs.View.{view}
use Rattle.plan_document.proofs.Zoned.{zones_more}
use Rattle.plan_document.proofs.zones.zones_in.Goals as goal

pub zones-preserved : goal.zones-preserved
zones-preserved c =
    zones_more view c.args.values.now c.zones.number c.index-values-number.result c.zones.rows.items c.add_zone.new.rows.items (omega arith) c.index-values-number.is c.zones.invariant c.in_ok-add_zone.ensures
