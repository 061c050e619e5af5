use Rattle.std.proofs.Common.{◌≡◌, ◌<◌, ℕ, None, length, get_or, take, IsTrue}
use Rattle.std.specs.List.{list_all}
use Rattle.plan_text.specs.Answers.{posture_of}
use Rattle.plan_document.specs.Postures.{given, gives_zone}
use Rattle.plan_document.proofs.plant_tables.plant_gives_of.Given as goal

abbrev pub invariant-loop-i : goal.invariant-loop-i
invariant-loop-i l = record {
  zones_count : length l.gives ≡ 40;
  known : IsTrue (list_all (gives_zone posture_of l.zones) (take l.i l.rows));
  last_given : (zone : ℕ) → zone < 40 → get_or l.gives zone None ≡ given posture_of l.zones (take l.i l.rows) zone;
}
