use Rattle.std.proofs.Common.{◌<◌, ℕ}
use Rattle.cell_sensors.specs.Curve.{IsNearPair, pair_at}
use Rattle.cell_sensors.proofs.curve.are_near.Given as goal

abbrev pub invariant-pairs : goal.invariant-pairs
invariant-pairs l = (k : ℕ) → k < l.i → IsNearPair l.points (pair_at l.pairs k)
