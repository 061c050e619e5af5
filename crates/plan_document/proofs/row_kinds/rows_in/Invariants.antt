use Rattle.std.proofs.Common.{map, take}
use Rattle.std.specs.List.{AllZip}
use Rattle.toml.specs.View.{view}
use Rattle.plan_document.proofs.row_kinds.rows_in.Given as goal

abbrev pub invariant-rows : goal.invariant-rows
invariant-rows g l = AllZip g.K.RowKind.is_in (map view (take l.i l.values)) l.rows.items
