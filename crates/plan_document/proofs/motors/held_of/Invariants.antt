use Rattle.std.proofs.Common.{◌≡◌, ◌<◌, ℕ, None, length, get_or, take, IsTrue}
use Rattle.std.specs.List.{list_all}
use Rattle.plan_document.specs.Motors.{held_need}
use Rattle.plan_document.specs.Postures.{given, gives_zone}
use Rattle.plan_document.proofs.motors.held_of.Given as goal

abbrev pub invariant-loop-i : goal.invariant-loop-i
invariant-loop-i l = record {
  zones_count : length l.holds ≡ 10;
  known : IsTrue (list_all (gives_zone held_need l.zones) (take l.i l.rows));
  last_given : (zone : ℕ) → zone < 10 → get_or l.holds zone None ≡ given held_need l.zones (take l.i l.rows) zone;
}
