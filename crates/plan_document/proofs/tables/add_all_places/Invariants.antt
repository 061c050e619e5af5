use Rattle.std.proofs.Common.{◌≡◌, take}
use Rattle.plan_document.specs.Names.{AreDistinct, AreNames, place_names}
use Rattle.plan_document.specs.Saying.{place_rows}
use Rattle.plan_document.proofs.tables.add_all_places.Given as goal

abbrev pub invariant-loop-i : goal.invariant-loop-i
invariant-loop-i l = record {
  names : l.names ≡ place_names (take l.i l.machines);
  spelled : AreNames l.names;
  distinct : AreDistinct l.names;
  rows : l.rows.items ≡ place_rows (take l.i l.machines);
}
