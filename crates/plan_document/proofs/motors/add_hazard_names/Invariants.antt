use Rattle.std.proofs.Common.{◌≡◌, take, IsTrue}
use Rattle.std.specs.List.{list_all}
use Rattle.plan_document.specs.Names.{AreDistinct, hazard_names, is_title}
use Rattle.plan_document.proofs.motors.add_hazard_names.Given as goal

abbrev pub invariant-loop-i : goal.invariant-loop-i
invariant-loop-i l = record {
  names : l.names ≡ hazard_names (take l.i l.hazards);
  spelled : IsTrue (list_all is_title l.names);
  distinct : AreDistinct l.names;
}
