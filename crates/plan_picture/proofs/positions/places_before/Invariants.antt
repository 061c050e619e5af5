use Rattle.std.proofs.Common.{◌≡◌, ◌≤◌, ◌*◌}
use Rattle.plan_picture.specs.Scenes as spec
use Rattle.plan_picture.proofs.positions.places_before.Given as goal

abbrev pub invariant-words : goal.invariant-words
invariant-words l = record {
  count : l.count ≡ spec.places_before l.shown l.word;
  below : l.count ≤ 16 * l.word;
}
