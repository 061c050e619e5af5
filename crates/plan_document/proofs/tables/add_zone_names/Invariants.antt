use Rattle.std.proofs.Common.{◌≡◌, take}
use Rattle.plan_document.specs.Names.{AreDistinct, AreNames, taken_names, zone_names}
use Rattle.plan_document.proofs.tables.add_zone_names.Given as goal

abbrev pub invariant-loop-i : goal.invariant-loop-i
invariant-loop-i l = record {
  names : l.names ≡ zone_names (take l.i l.zones);
  spelled : AreNames l.names;
  distinct : AreDistinct l.names;
  taken : l.taken ≡ taken_names (take l.i l.zones);
  taken_spelled : AreNames l.taken;
  taken_distinct : AreDistinct l.taken;
}
