use Rattle.std.proofs.Common.{◌≡◌, ◌≤◌, length, map, take, is_none, string_bytes, IsTrue}
use Rattle.std.specs.List.{list_all}
use Rattle.plan_text.specs.Names.{number_in}
use Rattle.plan_document.specs.Names.{AreDistinct, AreNames}
use Rattle.plan_document.proofs.sensors.sensors_of.Given as goal

abbrev pub invariant-loop-item : goal.invariant-loop-item
invariant-loop-item l = record {
  names : l.names ≡ map string_bytes (take l.item l.row.sensors.items);
  few : length l.names ≤ 32;
  spelled : AreNames l.names;
  distinct : AreDistinct l.names;
  apart : IsTrue (list_all (λ name. is_none (number_in l.zones name)) l.names);
}
