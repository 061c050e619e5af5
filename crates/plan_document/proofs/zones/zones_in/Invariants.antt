use Rattle.std.proofs.Common.{map, take}
use Rattle.toml.specs.View.{view}
use Rattle.plan_document.specs.Reading.{AreZonesIn}
use Rattle.plan_document.proofs.zones.zones_in.Given as goal

abbrev pub invariant-zones : goal.invariant-zones
invariant-zones l = AreZonesIn (map view (take l.number l.values)) l.rows.items
