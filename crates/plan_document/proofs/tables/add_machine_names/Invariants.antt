use Rattle.std.proofs.Common.{◌≡◌, take, IsTrue}
use Rattle.std.specs.List.{list_all}
use Rattle.plan_document.specs.Names.{AreDistinct, AreNames, machine_names}
use Rattle.plan_document.specs.Saying.{is_free}
use Rattle.plan_document.proofs.tables.add_machine_names.Given as goal

abbrev pub invariant-loop-i : goal.invariant-loop-i
invariant-loop-i l = record {
  names : l.names ≡ machine_names (take l.i l.machines);
  free : IsTrue (list_all is_free l.names);
  spelled : AreNames l.names;
  distinct : AreDistinct l.names;
}
