use Rattle.std.proofs.Common.{map, take}
use Rattle.toml.specs.View.{table_view, view}
use Rattle.plan_document.specs.Reading.{AreAdded, AreSides}
use Rattle.plan_document.proofs.zones.add_listed.Given as goal

abbrev pub invariant-sides : goal.invariant-sides
invariant-sides l =
    AreAdded (AreSides (table_view l.zone) (map view (take l.side l.values))) l.initial.rows.items l.rows.items
