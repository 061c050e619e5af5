use Rattle.std.proofs.Common.{◌≡◌, ◌<◌, ℕ, false, length, get_or, take, IsTrue}
use Rattle.std.specs.List.{list_all}
use Rattle.plan_document.specs.Motors.{is_known, is_listed}
use Rattle.plan_document.proofs.motors.listed_of.Given as goal

abbrev pub invariant-loop-item : goal.invariant-loop-item
invariant-loop-item l = record {
  places_count : length l.listed ≡ 16;
  known : IsTrue (list_all (is_known l.places) (take l.item l.names));
  each : (place : ℕ) → place < 16 → get_or l.listed place false ≡ is_listed l.places (take l.item l.names) place;
}
