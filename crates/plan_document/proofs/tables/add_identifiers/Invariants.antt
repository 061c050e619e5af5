use Rattle.std.proofs.Common.{◌≡◌, ◌++◌, take, string_bytes}
use Rattle.plan_document.specs.Names.{AreDistinct, identifiers_in}
use Rattle.plan_document.proofs.tables.add_identifiers.Given as goal

abbrev pub invariant-loop-pose : goal.invariant-loop-pose
invariant-loop-pose l = record {
  names : l.names ≡ l.initial.names ++ identifiers_in (string_bytes l.row.name) (take l.pose l.row.poses.items);
  distinct : AreDistinct l.initial.names → AreDistinct l.names;
}
