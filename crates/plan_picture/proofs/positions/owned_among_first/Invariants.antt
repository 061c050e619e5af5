use Rattle.std.proofs.Common.{◌≡◌, ◌≤◌}
use Rattle.plan_picture.specs.Scenes as spec
use Rattle.plan_picture.proofs.positions.owned_among_first.Given as goal

abbrev pub invariant-things : goal.invariant-things
invariant-things l = record {
  count : l.count ≡ spec.owned l.shown l.machine l.thing;
  below : l.count ≤ l.thing;
}
