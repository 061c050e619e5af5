use Rattle.std.proofs.Common.{◌≡◌, ◌≤◌, ◌*◌}
use Rattle.plan_picture.specs.Scenes as spec
use Rattle.plan_picture.proofs.positions.zones_before.Given as goal

abbrev pub invariant-words : goal.invariant-words
invariant-words l = record {
  count : l.count ≡ spec.zones_before l.shown l.word;
  below : l.count ≤ 64 * l.word;
}
