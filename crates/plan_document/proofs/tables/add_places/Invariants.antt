use Rattle.std.proofs.Common.{◌≡◌, ◌++◌, map, take, string_bytes}
use Rattle.plan_document.specs.Saying.{place_of}
use Rattle.plan_document.specs.Names.{AreDistinct, AreNames}
use Rattle.plan_document.proofs.tables.add_places.Given as goal

abbrev pub invariant-loop-item : goal.invariant-loop-item
invariant-loop-item l = record {
  names : l.names ≡ l.initial.names ++ map string_bytes (take l.item l.row.places.items);
  spelled : AreNames l.initial.names → AreNames l.names;
  distinct : AreDistinct l.initial.names → AreDistinct l.names;
  rows : l.rows.items ≡ l.initial.rows.items ++ map (λ name. place_of l.machine l.row (string_bytes name)) (take l.item l.row.places.items);
}
